-- What an owner got of each deque, and room for more.
use Rattle.std.proofs.Common.{◌≡◌, ◌≢◌, ℕ, zero, suc, ◌+◌, ◌<◌, ◌≤◌, ◌==◌, ◌⊎◌, Bool, true, false, if◌then◌else◌, List, [], ◌∷◌, ◌++◌, length, refl, sym, ap, ◌∙◌, subst, arith, eq-eqb, ne_eqb, eqb-true, true≢false, ⊎_elim, inl, inr, append_assoc}
use Rattle.std.specs.List.{All}
use Rattle.std.proofs.lemmas.List.{length-append}
use Rattle.std.proofs.lemmas.List.Sums.{sum_by_push}
use Rattle.std.proofs.lemmas.List.Elements.{All-push, All-head, All-tail}
use Rattle.std.proofs.lemmas.Option.{slice_get_within}
use Rattle.run_balance.specs.Logs.{Took, took, Logged, items_of, items_got, mark_of}
use Rattle.run_balance.specs.Rule.{FitsAt, IsBefore, Takes}
use Rattle.run_balance.specs.Sides.{items_from, AreRising, IsPart}
use Rattle.run_balance.specs.Owners.{one_if, sum_to}
use Rattle.run_balance.specs.declared.task.Task.{Task}
use Rattle.run_balance.specs.declared.task.Task.TheVariants.{Item, End}

-- ---- one deque

rising_more : (from : ℕ) (got : List Took) (place : ℕ) (task : Task) → AreRising from got → All (IsBefore place) got → from ≤ place → AreRising from (got ++ took place task ∷ [])
rising_more from [] place task rising before less = (less, tt)
rising_more from (t ∷ got) place task rising before less =
    (rising.0, rising_more (suc t.place) got place task rising.1 (All-tail (IsBefore place) t got before) (let e : t.place < place = All-head (IsBefore place) t got before in omega arith))

append-none : (xs : List ℕ) → xs ++ [] ≡ xs
append-none [] = refl
append-none (x ∷ xs) = ap (λ (l : List ℕ). x ∷ l) (append-none xs)

items_got_push : (got : List Took) (t : Took) → items_got (got ++ t ∷ []) ≡ items_got got ++ items_of t.task
items_got_push [] t = append-none (items_of t.task)
items_got_push (x ∷ got) t = ap (λ (l : List ℕ). items_of x.task ++ l) (items_got_push got t) ∙ sym (append_assoc (items_of x.task) (items_got got) (items_of t.task))

-- an item more
pub part_item : (share : List ℕ) (ends : ℕ) (items : List ℕ) (v w : Logged) (item : ℕ) → IsPart share ends items v → Takes v (Item item) w → IsPart share ends (items ++ item ∷ []) w
part_item share ends items v w item is takes =
    let t : Took = took takes.place (Item item) in
    subst (IsPart share ends (items ++ item ∷ [])) (sym takes.is) (record {
      parts = is.parts;
      share_is = is.share_is;
      marks_are = sum_by_push (λ (x : Took). mark_of x.task) v.got t ∙ (let e = is.marks_are in omega arith);
      items_are = ap (λ (l : List ℕ). l ++ item ∷ []) is.items_are ∙ sym (items_got_push v.got t);
      rising = rising_more 0 v.got takes.place (Item item) is.rising takes.behind (omega arith);
      fit = All-push (λ (x : Took). FitsAt share x.place x.task) v.got t is.fit (subst (λ (s : List ℕ). FitsAt s takes.place (Item item)) is.share_is takes.fits);
    })

-- the mark
pub part_end : (share items : List ℕ) (v w : Logged) → IsPart share 0 items v → Takes v End w → IsPart share 1 items w
part_end share items v w is takes =
    let t : Took = took takes.place End in
    subst (IsPart share 1 items) (sym takes.is) (record {
      parts = is.parts;
      share_is = is.share_is;
      marks_are = sum_by_push (λ (x : Took). mark_of x.task) v.got t ∙ (let e = is.marks_are in omega arith);
      items_are = is.items_are ∙ sym (append-none (items_got v.got)) ∙ sym (items_got_push v.got t);
      rising = rising_more 0 v.got takes.place End is.rising takes.behind (omega arith);
      fit = All-push (λ (x : Took). FitsAt share x.place x.task) v.got t is.fit tt;
    })

-- what was put changes nothing of it
pub part_put : (share : List ℕ) (ends : ℕ) (items : List ℕ) (v w : Logged) (put : List Task) → IsPart share ends items v → w ≡ record v { put = put } → IsPart share ends items w
part_put share ends items v w put is same = subst (IsPart share ends items) (sym same)
    (record { parts = is.parts; share_is = is.share_is; marks_are = is.marks_are; items_are = is.items_are; rising = is.rising; fit = is.fit })

-- rising places of a share are no more than it has
few_one : (share : List ℕ) (from place : ℕ) (task : Task) (rest : ℕ) → from ≤ place → FitsAt share place task → (rest ≡ 0) ⊎ (rest + suc place ≤ length share)
    → (length (items_of task) + rest ≡ 0) ⊎ ((length (items_of task) + rest) + from ≤ length share)
few_one share from place (Item x) rest le fit (inl none) = inr (let e = slice_get_within share place x fit in omega arith)
few_one share from place (Item x) rest le fit (inr few) = inr (omega arith)
few_one share from place End rest le fit (inl none) = inl (omega arith)
few_one share from place End rest le fit (inr few) = inr (omega arith)

few_from : (share : List ℕ) (from : ℕ) (got : List Took) → AreRising from got → All (λ (t : Took). FitsAt share t.place t.task) got
    → (length (items_got got) ≡ 0) ⊎ (length (items_got got) + from ≤ length share)
few_from share from [] rising fit = inl refl
few_from share from (t ∷ got) rising fit =
    let P = λ (t : Took). FitsAt share t.place t.task in
    subst (λ (n : ℕ). (n ≡ 0) ⊎ (n + from ≤ length share)) (sym (length-append (items_of t.task) (items_got got)))
    (few_one share from t.place t.task (length (items_got got)) rising.0 (All-head P t got fit) (few_from share (suc t.place) got rising.1 (All-tail P t got fit)))

pub few_items : (share : List ℕ) (ends : ℕ) (items : List ℕ) (v : Logged) → IsPart share ends items v → length items ≤ length share
few_items share ends items v is =
    let same = ap length is.items_are in
    ⊎_elim (λ (none : length (items_got v.got) ≡ 0). let e : length items ≤ length share = omega arith in e)
    (λ (few : length (items_got v.got) + 0 ≤ length share). let e : length items ≤ length share = omega arith in e) (few_from share 0 v.got is.rising is.fit)

-- ---- all deques

pub sum_to_le : (n : ℕ) (f g : ℕ → ℕ) → ((d : ℕ) → d < n → f d ≤ g d) → sum_to n f ≤ sum_to n g
sum_to_le zero f g all = omega arith
sum_to_le (suc n) f g all = let last = all n (omega arith) in let rest = sum_to_le n f g (λ d less. all d (omega arith)) in omega arith

by_test : (k n : ℕ) (b : Bool) → (k == n) ≡ b → k < suc n → (k ≡ n) ⊎ (k < n)
by_test k n true is less = inl (eqb-true k n is)
by_test k n false is less = inr (let apart : k ≢ n = λ e. absurd (true≢false (sym (eq-eqb k n e) ∙ is)) in omega arith)

last_or : (k n : ℕ) → k < suc n → (k ≡ n) ⊎ (k < n)
last_or k n less = by_test k n (k == n) refl less

pub sum_to_less : (n : ℕ) (f g : ℕ → ℕ) (k : ℕ) → ((d : ℕ) → d < n → f d ≤ g d) → k < n → f k < g k → sum_to n f < sum_to n g
sum_to_less zero f g k all less one = absurd (omega arith)
sum_to_less (suc n) f g k all less one =
    ⊎_elim (λ (e : k ≡ n). let last : f n < g n = subst (λ (m : ℕ). f m < g m) e one in let rest = sum_to_le n f g (λ d less. all d (omega arith)) in let r : sum_to n f + f n < sum_to n g + g n = omega arith in r)
    (λ (e : k < n). let last = all n (omega arith) in let rest = sum_to_less n f g k (λ d less. all d (omega arith)) e one in let r : sum_to n f + f n < sum_to n g + g n = omega arith in r)
    (last_or k n less)

pub sum_to_more : (n : ℕ) (f g : ℕ → ℕ) → sum_to n (λ d. f d + g d) ≡ sum_to n f + sum_to n g
sum_to_more zero f g = refl
sum_to_more (suc n) f g = let rest = sum_to_more n f g in omega arith

pub sum_to_same : (n : ℕ) (f g : ℕ → ℕ) → ((d : ℕ) → f d ≡ g d) → sum_to n f ≡ sum_to n g
sum_to_same zero f g all = refl
sum_to_same (suc n) f g all = let last = all n in let rest = sum_to_same n f g all in omega arith

pub sum_to_none : (n : ℕ) → sum_to n (λ _. 0) ≡ 0
sum_to_none zero = refl
sum_to_none (suc n) = let rest = sum_to_none n in omega arith

sum_to_zero : (n k : ℕ) → n ≤ k → sum_to n (λ d. one_if (k == d)) ≡ 0
sum_to_zero zero k le = refl
sum_to_zero (suc n) k le = let rest = sum_to_zero n k (omega arith) in let e = ap one_if (ne_eqb k n (λ e. absurd (omega arith))) in omega arith

above : (n k : ℕ) → k ≡ n → sum_to n (λ d. one_if (k == d)) ≡ 1 → ⊥
above n k same one = let e = sum_to_zero n k (omega arith) in omega arith

sum_to_step : (n k : ℕ) (b : Bool) → (k == n) ≡ b → (sum_to n (λ d. one_if (k == d)) ≡ 0) × (n ≤ k) ⊎ (sum_to n (λ d. one_if (k == d)) ≡ 1)
    → (sum_to (suc n) (λ d. one_if (k == d)) ≡ 0) × (suc n ≤ k) ⊎ (sum_to (suc n) (λ d. one_if (k == d)) ≡ 1)
sum_to_step n k true is (inl none) = inr (let e = ap one_if is in let z = none.0 in omega arith)
sum_to_step n k false is (inl none) =
    inl ((let e = ap one_if is in let z = none.0 in omega arith), (let apart : k ≢ n = λ e. absurd (true≢false (sym (eq-eqb k n e) ∙ is)) in let z = none.1 in omega arith))
sum_to_step n k true is (inr one) = absurd (above n k (eqb-true k n is) one)
sum_to_step n k false is (inr one) = inr (let e = ap one_if is in omega arith)

-- one at a number alone
sum_to_one : (n k : ℕ) → (sum_to n (λ d. one_if (k == d)) ≡ 0) × (n ≤ k) ⊎ (sum_to n (λ d. one_if (k == d)) ≡ 1)
sum_to_one zero k = inl (refl, omega arith)
sum_to_one (suc n) k = sum_to_step n k (k == n) refl (sum_to_one n k)

-- an item that came from one deque is counted there
length_from_one : (d k : ℕ) (b : Bool) (item : ℕ) (items : List ℕ) → length (if b then item ∷ items else items) ≡ one_if b + length items
length_from_one d k true item items = omega arith
length_from_one d k false item items = omega arith

-- what came from all deques is all
pub length_all : (n : ℕ) (froms : List ℕ) (items : List ℕ) → length froms ≡ length items → All (λ (d : ℕ). d < n) froms → sum_to n (λ d. length (items_from d froms items)) ≡ length items
length_all n [] [] same few = sum_to_none n
length_all n [] (item ∷ items) same few = absurd (omega arith)
length_all n (from ∷ froms) [] same few = absurd (omega arith)
length_all n (from ∷ froms) (item ∷ items) same few =
    let P = λ (d : ℕ). d < n in
    let less : from < n = All-head P from froms few in
    let rest = length_all n froms items (let e : length froms ≡ length items = omega arith in e) (All-tail P from froms few) in
    let one : sum_to n (λ d. one_if (from == d)) ≡ 1 =
    ⊎_elim (λ (x : (sum_to n (λ d. one_if (from == d)) ≡ 0) × (n ≤ from)). absurd (let y = x.1 in omega arith)) (λ (x : sum_to n (λ d. one_if (from == d)) ≡ 1). x) (sum_to_one n from) in
    sum_to_same n (λ d. length (items_from d (from ∷ froms) (item ∷ items))) (λ d. one_if (from == d) + length (items_from d froms items))
    (λ d. length_from_one d from (from == d) item (items_from d froms items))
    ∙ sum_to_more n (λ d. one_if (from == d)) (λ d. length (items_from d froms items))
    ∙ (let e : sum_to n (λ d. one_if (from == d)) + sum_to n (λ d. length (items_from d froms items)) ≡ suc (length items) = omega arith in e)

one_more : (b : Bool) (y : ℕ) (xs ys zs : List ℕ) → xs ≡ ys ++ zs → (if b then y ∷ xs else xs) ≡ (if b then y ∷ ys else ys) ++ zs
one_more true y xs ys zs e = ap (λ (l : List ℕ). y ∷ l) e
one_more false y xs ys zs e = e

-- one more item
from_more : (d : ℕ) (froms : List ℕ) (items : List ℕ) (from : ℕ) (item : ℕ) → length froms ≡ length items
    → items_from d (froms ++ from ∷ []) (items ++ item ∷ []) ≡ items_from d froms items ++ (if from == d then item ∷ [] else [])
from_more d [] [] from item same = refl
from_more d [] (y ∷ items) from item same = absurd (omega arith)
from_more d (p ∷ froms) [] from item same = absurd (omega arith)
from_more d (p ∷ froms) (y ∷ items) from item same =
    one_more (p == d) y (items_from d (froms ++ from ∷ []) (items ++ item ∷ [])) (items_from d froms items) (if from == d then item ∷ [] else [])
    (from_more d froms items from item (omega arith))

pub from_here : (froms : List ℕ) (items : List ℕ) (from : ℕ) (item : ℕ) → length froms ≡ length items → items_from from (froms ++ from ∷ []) (items ++ item ∷ []) ≡ items_from from froms items ++ item ∷ []
from_here froms items from item same = from_more from froms items from item same ∙ ap (λ (b : Bool). items_from from froms items ++ (if b then item ∷ [] else [])) (eq-eqb from from refl)

pub from_else : (d : ℕ) (froms : List ℕ) (items : List ℕ) (from : ℕ) (item : ℕ) → d ≢ from → length froms ≡ length items → items_from d (froms ++ from ∷ []) (items ++ item ∷ []) ≡ items_from d froms items
from_else d froms items from item apart same =
    from_more d froms items from item same ∙ ap (λ (b : Bool). items_from d froms items ++ (if b then item ∷ [] else [])) (ne_eqb from d (λ e. apart (sym e)))
    ∙ append-none (items_from d froms items)

-- How many virtual processors are loaded, and what room is left.
use Rattle.std.proofs.Common.{◌≡◌, ◌≢◌, ℕ, zero, suc, ◌+◌, ◌<◌, ◌==◌, if◌then◌else◌, cond, Bool, true, false, List, [], ◌∷◌, Option, Some, None, length, get_or, refl, sym, ap, ◌∙◌, arith}
use Rattle.std.specs.Prelude.{count_by, is_some}
use Rattle.std.proofs.lemmas.Bool.{eq-eqb, eqb-true, ne_eqb}
use Rattle.std.proofs.lemmas.List.Sums.{sum_by-cons}
use Rattle.isolation_law.specs.Parts.{Processor}
use Rattle.isolation_law.specs.GuestState.{idle}
use Rattle.guest_core.specs.GuestView.{is_loaded}

abbrev pub one : Option ℕ → ℕ
one l = cond (is_some l) 1 0

pub count_by-cons : (x : Processor) (l : List Processor) → count_by is_loaded (x ∷ l) ≡ one x.loaded + count_by is_loaded l
count_by-cons x l = sum_by-cons (λ (p : Processor). one p.loaded) x l

-- as many are loaded where each processor has as much as before
pub count-same : (l m : List Processor) → length m ≡ length l → ((r : ℕ) → (get_or m r idle).loaded ≡ (get_or l r idle).loaded) → count_by is_loaded m ≡ count_by is_loaded l
count-same [] [] long same = refl
count-same [] (y ∷ m) long same = absurd (omega arith)
count-same (x ∷ l) [] long same = absurd (omega arith)
count-same (x ∷ l) (y ∷ m) long same =
    count_by-cons y m ∙ (λ i. one (same 0 i) + count-same l m (omega arith) (λ r. same (suc r)) i) ∙ sym (count_by-cons x l)

-- one processor has another virtual processor, or none
pub count-at : (l m : List Processor) (p : ℕ) → p < length l → length m ≡ length l → ((r : ℕ) → r ≢ p → (get_or m r idle).loaded ≡ (get_or l r idle).loaded)
    → count_by is_loaded m + one (get_or l p idle).loaded ≡ count_by is_loaded l + one (get_or m p idle).loaded
count-at [] m p lt long same = absurd (omega arith)
count-at (x ∷ l) [] p lt long same = absurd (omega arith)
count-at (x ∷ l) (y ∷ m) zero lt long same =
    let rest = count-same l m (omega arith) (λ r. same (suc r) (λ e. let no : suc r ≡ 0 = e in omega arith)) in
    omega (arith, rest, count_by-cons y m, count_by-cons x l)
count-at (x ∷ l) (y ∷ m) (suc p) lt long same =
    let here : one y.loaded ≡ one x.loaded = ap one (same 0 (λ e. let no : 0 ≡ suc p = e in omega arith)) in
    let rest = count-at l m p (omega arith) (omega arith) (λ r no. same (suc r) (λ e. no (let f : r ≡ p = omega arith in f))) in
    omega (arith, here, rest, count_by-cons y m, count_by-cons x l)

-- what is said of this one, and of the others
own : (p : ℕ) (x l : Option ℕ) → (if p == p then x else l) ≡ x
own p x l = ap (λ (b : Bool). if b then x else l) (eq-eqb p p refl)

other : (p r : ℕ) (x l : Option ℕ) → r ≢ p → (if r == p then x else l) ≡ l
other p r x l differs = ap (λ (b : Bool). if b then x else l) (ne_eqb r p differs)

differ : true ≡ false → ⊥
differ e = cc

-- it is the same, in either order
pub swapped : (r p : ℕ) (x l : Option ℕ) → (if r == p then x else l) ≡ (if p == r then x else l)
swapped r p x l = by (r == p) refl
  where
    by : (b : Bool) → (r == p) ≡ b → (if r == p then x else l) ≡ (if p == r then x else l)
    by true e =
        let same : r ≡ p = eqb-true r p e in
        λ i. if same i == sym same i then x else l
    by false e = other p r x l (λ same. absurd (differ (sym (eq-eqb r p same) ∙ e))) ∙ sym (other r p x l (λ same. absurd (differ (sym (eq-eqb r p (sym same)) ∙ e))))

pub count-loaded : (l m : List Processor) (p v : ℕ) → p < length l → length m ≡ length l → ((r : ℕ) → (get_or m r idle).loaded ≡ (if r == p then Some v else (get_or l r idle).loaded))
    → (get_or l p idle).loaded ≡ None → count_by is_loaded m ≡ suc (count_by is_loaded l)
count-loaded l m p v lt long is free =
    let at = count-at l m p lt long (λ r no. is r ∙ other p r (Some v) (get_or l r idle).loaded no) in
    let before : one (get_or l p idle).loaded ≡ 0 = ap one free in
    let after : one (get_or m p idle).loaded ≡ 1 = ap one (is p ∙ own p (Some v) (get_or l p idle).loaded) in
    omega (arith, at, before, after)

pub count-unloaded : (l m : List Processor) (p v : ℕ) → p < length l → length m ≡ length l → ((r : ℕ) → (get_or m r idle).loaded ≡ (if r == p then None else (get_or l r idle).loaded))
    → (get_or l p idle).loaded ≡ Some v → suc (count_by is_loaded m) ≡ count_by is_loaded l
count-unloaded l m p v lt long is there =
    let at = count-at l m p lt long (λ r no. is r ∙ other p r None (get_or l r idle).loaded no) in
    let before : one (get_or l p idle).loaded ≡ 1 = ap one there in
    let after : one (get_or m p idle).loaded ≡ 0 = ap one (is p ∙ own p None (get_or l p idle).loaded) in
    omega (arith, at, before, after)

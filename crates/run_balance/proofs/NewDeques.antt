-- New deques.
use Rattle.std.proofs.Common.{◌≡◌, ◌≢◌, ◌⊎◌, ℕ, zero, suc, ◌+◌, ◌<◌, ◌≤◌, ◌==◌, Bool, true, false, List, [], ◌∷◌, ◌++◌, length, take, replicate, set, length-set, Some, slice_get, slice_index_or, refl, sym, ap, ◌∙◌, subst, arith, inl, inr, ⊎_elim, eqb-true, eq-eqb, true≢false}
use Rattle.std.specs.Prelude.{Vec}
use Rattle.std.specs.declared.alloc.Global.{Global}
use Rattle.std.proofs.lemmas.Option.{slice_get_within}
use Rattle.std.proofs.lemmas.List.{length-replicate, length_push, get_or_push}
use Rattle.std.proofs.Math.ListN.{get_or-append}
use Rattle.crossbeam_deque.specs.Handles.{IsPassOf, worker_view, worker_deque, worker_flavor, worker_index, worker_capacity, SameWorker}
use Rattle.run_balance.specs.Logs.{Logged, first_log, thief_log}
use Rattle.run_balance.specs.Ends.{Dealer}
use Rattle.run_balance.specs.Shares.{Share, share_of, own_shares, flat_from, whose_at, share_at}
use Rattle.run_balance.specs.Sides.{put_of, side_at}
use Rattle.run_balance.specs.Making.{IsNew, IsMade, AreMade, IsRowSide, Admitted, AreAdmitted, IsRow, AreRows, one_else, passes_after}
use Rattle.run_balance.specs.declared.making.Made.{Made}
use Rattle.run_balance.specs.declared.side.Stretch.{Stretch}
use Rattle.run_balance.specs.declared.side.Side.{Side}
use Rattle.run_balance.specs.declared.side.Side.TheVariants.{Own, Other, Spent}
use Rattle.run_balance.specs.declared.task.Task.TheVariants.{End}
use Rattle.run_balance.proofs.Numbers.{some_there, one_there, none_there, get_set, below_next}
use Rattle.run_balance.proofs.Puts.{put_less, put_all}

has_items : (share : List ℕ) → share ≢ [] → 0 < length share
has_items [] some = absurd (some refl)
has_items (x ∷ share) some = omega arith

-- of a share without items: the marks alone
pub new_empty : (share : List ℕ) (owners room : ℕ) (first : Dealer) (s : Stretch) → s.count ≡ length share → s.dealt ≡ 0 → share ≡ [] → worker_view first ≡ record first_log { share = share } → worker_flavor first ≡ 0 → worker_index first ≡ 0 → room ≡ length share + owners → room ≤ worker_capacity first
    → SameWorker first s.dealer → worker_index s.dealer ≡ worker_index first + owners → worker_view s.dealer ≡ record (worker_view first) { put = (worker_view first).put ++ replicate owners End } → IsNew share owners 1 s
new_empty share owners room first s count dealt none view_is flavor index room_is capacity same index' view_is' =
    let put_is : put_of share 0 owners ≡ replicate owners End = put_all share 0 owners (let e : 0 ≡ length share = sym (ap length none) in e) in
    record {
      count = count;
      dealt = dealt;
      view_is = view_is' ∙ (λ i. record (view_is i) { put = (view_is i).put ++ replicate owners End }) ∙ (λ i. record first_log { share = share; put = sym put_is i });
      first = same.1 ∙ flavor;
      index = let l = ap length put_is in let r = length-replicate owners End in omega arith;
      room = let c = same.3 in omega arith;
    }

-- of one with items: nothing yet
pub new_some : (share : List ℕ) (owners room : ℕ) (s : Stretch) → s.count ≡ length share → s.dealt ≡ 0 → share ≢ [] → worker_view s.dealer ≡ record first_log { share = share } → worker_flavor s.dealer ≡ 0 → worker_index s.dealer ≡ 0
    → room ≡ length share + owners → room ≤ worker_capacity s.dealer → IsNew share owners 1 s
new_some share owners room s count dealt some view_is flavor index room_is capacity = record {
  count = count;
  dealt = dealt;
  view_is = view_is ∙ (λ i. record first_log { share = share; put = sym (put_less share 0 owners (has_items share some)) i });
  first = flavor;
  index = omega arith;
  room = omega arith;
}

-- ---- one more stretch

pub get_push : {A : Type 0} → (l : List A) (y : A) (d : ℕ) (x : A) → slice_get (l ++ y ∷ []) d ≡ Some x → (slice_get l d ≡ Some x) ⊎ ((d ≡ length l) × (y ≡ x))
get_push [] y zero x at = inr (refl, sym (one_there (y ∷ []) 0 y x refl at))
get_push {A} [] y (suc d) x at = absurd (none_there {A = A} d x at)
get_push (z ∷ l) y zero x at = inl at
get_push (z ∷ l) y (suc d) x at = ⊎_elim (λ (s : slice_get l d ≡ Some x). inl s) (λ (s : (d ≡ length l) × (y ≡ x)). inr (ap suc s.0, s.1)) (get_push l y d x at)

share_here : (line : List Share) (items : List ℕ) (w : ℕ) → slice_index_or (line ++ share_of w items ∷ []) (length line) (share_of 0 []) ≡ share_of w items
share_here line items w = get_or_push line (share_of w items) (share_of 0 []) (length line) refl

share_before : (line more : List Share) (d : ℕ) → d < length line → slice_index_or (line ++ more) d (share_of 0 []) ≡ slice_index_or line d (share_of 0 [])
share_before line more d less = get_or-append line more (share_of 0 []) d less

made_there : (line line' : List Share) (owners : ℕ) (passes : ℕ → ℕ) (d : ℕ) (m : Made) → slice_index_or line d (share_of 0 []) ≡ slice_index_or line' d (share_of 0 []) → IsMade line owners passes d m → IsMade line' owners passes d m
made_there line line' owners passes d m same is = record {
  whose = is.whose ∙ ap (λ (s : Share). s.whose) same;
  new = subst (λ (s : Share). IsNew s.items owners (passes s.whose) m.stretch) same is.new;
}

pub made_more : (line : List Share) (owners : ℕ) (made : List Made) (m : Made) (items : List ℕ) (w : ℕ) → AreMade line owners (λ _. 1) made → m.whose.0 ≡ w → IsNew items owners 1 m.stretch → AreMade (line ++ share_of w items ∷ []) owners (λ _. 1) (made ++ m ∷ [])
made_more line owners made m items w a whose new =
    let line' = line ++ share_of w items ∷ [] in record {
      long = length_push made m ∙ ap (λ (n : ℕ). n + 1) a.long ∙ sym (length_push line (share_of w items));
      each = λ d x at. ⊎_elim (λ (s : slice_get made d ≡ Some x). made_there line line' owners (λ _. 1) d x (sym (share_before line (share_of w items ∷ []) d (let e = slice_get_within made d x s in let l = a.long in omega arith))) (a.each d x s))
          (λ (s : (d ≡ length made) × (m ≡ x)). subst (λ (z : ℕ × Made). IsMade line' owners (λ _. 1) z.0 z.1) (λ i. (sym (s.0 ∙ a.long) i, s.1 i))
          (record {
            whose = whose ∙ ap (λ (s : Share). s.whose) (sym (share_here line items w));
            new = subst (λ (s : Share). IsNew s.items owners 1 m.stretch) (sym (share_here line items w)) new;
          })) (get_push made m d x at);
    }

pub made_none : (owners : ℕ) (passes : ℕ → ℕ) → AreMade [] owners passes []
made_none owners passes = record { long = refl; each = λ d m at. absurd (none_there {A = Made} d m at) }

append-none : {A : Type 0} → (xs : List A) → xs ++ [] ≡ xs
append-none [] = refl
append-none (x ∷ xs) = ap (λ l. x ∷ l) (append-none xs)

-- the first stretches of a processor, and one more
pub own_next : (p : ℕ) (lists : List (List ℕ)) (k : ℕ) → k < length lists → own_shares p (take (k + 1) lists) ≡ own_shares p (take k lists) ++ share_of p (slice_index_or lists k []) ∷ []
own_next p [] k less = absurd (omega arith)
own_next p (x ∷ lists) zero less = refl
own_next p (x ∷ lists) (suc k) less = ap (λ (n : ℕ). own_shares p (take n (x ∷ lists))) (let e : suc k + 1 ≡ suc (k + 1) = omega arith in e) ∙ ap (λ (l : List Share). share_of p x ∷ l) (own_next p lists k (omega arith))

-- and of all processors
pub flat_next : (p : ℕ) (shares : List (List (List ℕ))) (k : ℕ) → k < length shares → flat_from p (take (k + 1) shares) ≡ flat_from p (take k shares) ++ own_shares (p + k) (slice_index_or shares k [])
flat_next p [] k less = absurd (omega arith)
flat_next p (x ∷ shares) zero less = append-none (own_shares p x) ∙ ap (λ (n : ℕ). own_shares n x) (let e : p ≡ p + 0 = omega arith in e)
flat_next p (x ∷ shares) (suc k) less =
    ap (λ (n : ℕ). flat_from p (take n (x ∷ shares))) (let e : suc k + 1 ≡ suc (k + 1) = omega arith in e)
    ∙ ap (λ (l : List Share). own_shares p x ++ l) (flat_next (suc p) shares k (omega arith) ∙ ap (λ (n : ℕ). flat_from (suc p) (take k shares) ++ own_shares n (slice_index_or shares k [])) (let e : suc p + k ≡ p + suc k = omega arith in e))
    ∙ sym (Rattle.std.proofs.Common.append_assoc (own_shares p x) (flat_from (suc p) (take k shares)) (own_shares (p + suc k) (slice_index_or shares k [])))

-- ---- passes for an owner, deque by deque

pub record Rows (number place : ℕ) (first made : List Made) (sides : List Side) : Type 0 where
  pub long : length made ≡ length first
  pub row : length sides ≡ place
  pub ahead : (d : ℕ) (x : Made) → place ≤ d → slice_get made d ≡ Some x → slice_get first d ≡ Some x
  pub behind : (d : ℕ) (x y : Made) → d < place → slice_get first d ≡ Some x → slice_get made d ≡ Some y → Admitted number x y
  pub sides_are : (d : ℕ) (x : Made) → d < place → slice_get first d ≡ Some x → x.whose.0 ≢ number → IsRowSide x.stretch.dealer (side_at sides d)

pub rows_none : (number : ℕ) (first : List Made) → Rows number 0 first first []
rows_none number first = record { long = refl; row = refl; ahead = λ d x less at. at; behind = λ d x y less at at'. absurd (omega arith); sides_are = λ d x less at other. absurd (omega arith) }

pub rows_more : (number place : ℕ) (first made : List Made) (sides : List Side) (x y : Made) (side : Side) → Rows number place first made sides → slice_get made place ≡ Some x → Admitted number x y → (x.whose.0 ≢ number → IsRowSide x.stretch.dealer side)
    → Rows number (place + 1) first (set made place y) (sides ++ side ∷ [])
rows_more number place first made sides x y side r at admitted is_side =
    let was : slice_get first place ≡ Some x = r.ahead place x (let e : place ≤ place = omega arith in e) at in
    let row = r.row in record {
      long = length-set made place y ∙ r.long;
      row = length_push sides side ∙ ap (λ (n : ℕ). n + 1) r.row;
      ahead = λ d q less there.
          ⊎_elim (λ (s : (d ≡ place) × (y ≡ q)). absurd (let e = s.0 in omega arith)) (λ (s : (d ≢ place) × (slice_get made d ≡ Some q)). r.ahead d q (let e : place ≤ d = omega arith in e) s.1) (get_set made place y d q there);
      behind = λ d p q less there there'.
          ⊎_elim (λ (s : (d ≡ place) × (y ≡ q)).
          subst (λ (z : Made × Made). Admitted number z.0 z.1) (λ i. (sym (one_there first d x p (ap (slice_get first) s.0 ∙ was) there) i, s.1 i)) admitted)
          (λ (s : (d ≢ place) × (slice_get made d ≡ Some q)). r.behind d p q (let e = s.0 in let z : d < place = omega arith in z) there s.1) (get_set made place y d q there');
      sides_are = λ d p less there other.
          ⊎_elim (λ (z : d < place). subst (IsRowSide p.stretch.dealer) (sym (get_or-append sides (side ∷ []) Spent d (let e : d < length sides = omega arith in e))) (r.sides_are d p z there other))
          (λ (z : d ≡ place).
          let same : p ≡ x = one_there first d x p (ap (slice_get first) z ∙ was) there in
          subst (λ (w : Made × Side). IsRowSide w.0.stretch.dealer w.1) (λ i. (sym same i, sym (get_or_push sides side Spent d (r.row ∙ sym z)) i)) (is_side (λ e. other (ap (λ (m : Made). m.whose.0) same ∙ e))))
          (below_next d place less);
    }

pub rows_admitted : (number place : ℕ) (first made : List Made) (sides : List Side) → Rows number place first made sides → place ≡ length first → AreAdmitted number first made
rows_admitted number place first made sides r all = record { long = r.long; each = λ d x y at at'. r.behind d x y (let e = slice_get_within first d x at in omega arith) at at' }

pub rows_row : (number place : ℕ) (first made : List Made) (sides : List Side) → Rows number place first made sides → place ≡ length first → IsRow number first sides
rows_row number place first made sides r all = record { long = r.row ∙ all; each = λ d x at other. r.sides_are d x (let e = slice_get_within first d x at in omega arith) at other }

-- ---- the passes of all owners

passes_step : (rows d : ℕ) (b : Bool) → (d == rows) ≡ b → ((rows ≤ d) × (passes_after rows d ≡ rows + 1)) ⊎ ((d < rows) × (passes_after rows d ≡ rows))
    → ((suc rows ≤ d) × (passes_after (suc rows) d ≡ suc rows + 1)) ⊎ ((d < suc rows) × (passes_after (suc rows) d ≡ suc rows))
passes_step rows d true is (inl x) = inr (let e = eqb-true d rows is in let y = x.1 in let z = ap one_else is in (omega arith, omega arith))
passes_step rows d true is (inr x) = absurd (let e = eqb-true d rows is in let y = x.0 in omega arith)
passes_step rows d false is (inl x) =
    inl (let apart : d ≢ rows = (λ e. true≢false (sym (eq-eqb d rows e) ∙ is)) in let y = x.0 in let w = x.1 in let z = ap one_else is in (omega arith, omega arith))
passes_step rows d false is (inr x) = inr (let y = x.0 in let w = x.1 in let z = ap one_else is in (omega arith, omega arith))

passes_all : (rows d : ℕ) → ((rows ≤ d) × (passes_after rows d ≡ rows + 1)) ⊎ ((d < rows) × (passes_after rows d ≡ rows))
passes_all zero d = inl (omega arith, refl)
passes_all (suc rows) d = passes_step rows d (d == rows) refl (passes_all rows d)

pub passes_end : (rows d : ℕ) → d < rows → passes_after rows d ≡ rows
passes_end rows d less = ⊎_elim (λ (x : (rows ≤ d) × (passes_after rows d ≡ rows + 1)). absurd (let e = x.0 in omega arith)) (λ (x : (d < rows) × (passes_after rows d ≡ rows)). x.1) (passes_all rows d)

pub record Passed (rows owners : ℕ) (first made : List Made) (done : List (Vec Side Global)) : Type 0 where
  pub new : (line : List Share) → AreMade line owners (λ _. 1) first → AreMade line owners (passes_after rows) made
  pub rows_are : AreRows rows made done
  pub long : length made ≡ length first

pub passed_none : (owners : ℕ) (first : List Made) → Passed 0 owners first first []
passed_none owners first = record { new = λ line a. a; rows_are = record { long = refl; each = λ i row at. absurd (none_there {A = Vec Side Global} i row at) }; long = refl }

same_side : (x y : Dealer) (side : Side) → worker_deque y ≡ worker_deque x → (worker_view y).share ≡ (worker_view x).share → IsRowSide x side → IsRowSide y side
same_side x y (Own s) deque share is = is
same_side x y (Other seat) deque share is = (subst (λ k. IsPassOf k seat) (sym deque) is.0, is.1 ∙ ap thief_log (sym share))
same_side x y Spent deque share is = is

row_stays : (number i : ℕ) (old new : List Made) (row : List Side) → AreAdmitted number old new → IsRow i old row → IsRow i new row
row_stays number i old new row a is = record {
  long = is.long ∙ sym a.long;
  each = λ d y at other.
      let some = some_there old d (let e = slice_get_within new d y at in let l = a.long in omega arith) in
      let ad = a.each d some.0 y some.1 at in
      same_side some.0.stretch.dealer y.stretch.dealer (side_at row d) ad.deque (ap (λ (v : Logged). v.share) ad.view_is) (is.each d some.0 some.1 (λ e. other (ap (λ w. w.0) ad.whose ∙ e)));
}

new_admitted : (share : List ℕ) (owners passes number w : ℕ) (x y : Made) → IsNew share owners passes x.stretch → Admitted number x y → x.whose.0 ≡ w → IsNew share owners (passes + one_else (w == number)) y.stretch
new_admitted share owners passes number w x y is a whose = record {
  count = a.count ∙ is.count;
  dealt = a.dealt ∙ is.dealt;
  view_is = a.view_is ∙ (λ i. record (is.view_is i) { passes = (is.view_is i).passes + one_else (whose i == number) });
  first = a.first ∙ is.first;
  index = let e = a.index in let i = is.index in omega arith;
  room = let e = a.room in let i = is.room in omega arith;
}

pub passed_more : (rows owners : ℕ) (first made new : List Made) (done : List (Vec Side Global)) (row : Vec Side Global) → Passed rows owners first made done → AreAdmitted rows made new → IsRow rows made row.items
    → Passed (suc rows) owners first new (done ++ row ∷ [])
passed_more rows owners first made new done row m a is = record {
  new = λ line fresh.
      let n = m.new line fresh in record {
        long = a.long ∙ n.long;
        each = λ d y at.
            let some = some_there made d (let e = slice_get_within new d y at in let l = a.long in omega arith) in
            let ad = a.each d some.0 y some.1 at in
            let was = n.each d some.0 some.1 in record {
              whose = ap (λ w. w.0) ad.whose ∙ was.whose;
              new = new_admitted (share_at line d) owners (passes_after rows (whose_at line d)) rows (whose_at line d) some.0 y was.new ad was.whose;
            };
      };
  rows_are = record {
    long = length_push done row ∙ (let l = m.rows_are.long in omega arith);
    each = λ i r at. ⊎_elim (λ (s : slice_get done i ≡ Some r). row_stays rows i made new r.items a (m.rows_are.each i r s))
        (λ (s : (i ≡ length done) × (row ≡ r)). subst (λ (z : ℕ × Vec Side Global). IsRow z.0 new z.1.items) (λ j. (sym (s.0 ∙ m.rows_are.long) j, s.1 j)) (row_stays rows rows made new row.items a is)) (get_push done row i r at);
  };
  long = a.long ∙ m.long;
}

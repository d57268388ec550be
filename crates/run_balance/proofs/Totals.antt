-- What all owners got of all deques.
use Rattle.std.proofs.Common.{◌≡◌, ◌≢◌, ℕ, zero, suc, ◌+◌, ◌<◌, ◌≤◌, ◌==◌, ◌⊎◌, Bool, true, false, if◌then◌else◌, List, [], ◌∷◌, length, sum_by, slice_get, Some, refl, sym, ap, ◌∙◌, arith, eq-eqb, ne_eqb, eqb-true, true≢false, ⊎_elim, inl, inr}
use Rattle.std.specs.List.{All}
use Rattle.std.proofs.lemmas.List.Sums.{sum_by-cons}
use Rattle.std.proofs.lemmas.List.Elements.{All-head, All-tail}
use Rattle.run_balance.specs.Shares.{Share, share_at}
use Rattle.run_balance.specs.Sides.{items_from}
use Rattle.run_balance.specs.Owners.{taken_by, from_of, taken_from, times, one_if, sum_to}
use Rattle.run_balance.specs.declared.owner.Owner.{Owner}
use Rattle.run_balance.proofs.Parts.{sum_to_more, sum_to_same, sum_to_none}
use Rattle.run_balance.proofs.NewOwners.{sum_to_first}

-- ---- one owner

only_zero : (n k w : ℕ) → n ≤ k → sum_to n (λ d. if k == d then w else 0) ≡ 0
only_zero zero k w le = refl
only_zero (suc n) k w le = let rest = only_zero n k w (omega arith) in let e = ap (λ (b : Bool). if b then w else 0) (ne_eqb k n (λ e. absurd (omega arith))) in omega arith

only_step : (n k w : ℕ) (b : Bool) → (k == n) ≡ b → k < suc n → (k < n → sum_to n (λ d. if k == d then w else 0) ≡ w) → sum_to (suc n) (λ d. if k == d then w else 0) ≡ w
only_step n k w true is less rest =
    let same = eqb-true k n is in
    let none = only_zero n k w (omega arith) in
    let e = ap (λ (b : Bool). if b then w else 0) is in
    omega arith
only_step n k w false is less rest =
    let apart : k ≢ n = λ e. absurd (true≢false (sym (eq-eqb k n e) ∙ is)) in
    let one = rest (⊎_elim (λ (e : k ≡ n). absurd (apart e)) (λ (e : k < n). e) (last k n less)) in
    let e = ap (λ (b : Bool). if b then w else 0) is in
    omega arith
  where
    last : (k n : ℕ) → k < suc n → (k ≡ n) ⊎ (k < n)
    last zero zero less = inl refl
    last zero (suc n) less = inr (omega arith)
    last (suc k) zero less = absurd (omega arith)
    last (suc k) (suc n) less = ⊎_elim (λ (e : k ≡ n). inl (ap suc e)) (λ (e : k < n). inr (omega arith)) (last k n (omega arith))

-- a number that comes once
only : (n k w : ℕ) → k < n → sum_to n (λ d. if k == d then w else 0) ≡ w
only zero k w less = absurd (omega arith)
only (suc n) k w less = only_step n k w (k == n) refl less (λ less. only n k w less)

times_one : (item y : ℕ) (b : Bool) (items : List ℕ) → times item (if b then y ∷ items else items) ≡ (if b then one_if (y == item) else 0) + times item items
times_one item y true items = sum_by-cons (λ (x : ℕ). one_if (x == item)) y items
times_one item y false items = omega arith

-- what came from all deques is all
times_all : (n item : ℕ) (froms items : List ℕ) → length froms ≡ length items → All (λ (d : ℕ). d < n) froms → sum_to n (λ d. times item (items_from d froms items)) ≡ times item items
times_all n item [] [] same few = sum_to_none n
times_all n item [] (y ∷ items) same few = absurd (omega arith)
times_all n item (from ∷ froms) [] same few = absurd (omega arith)
times_all n item (from ∷ froms) (y ∷ items) same few =
    let P = λ (d : ℕ). d < n in
    let w = one_if (y == item) in
    let rest = times_all n item froms items (let e : length froms ≡ length items = omega arith in e) (All-tail P from froms few) in
    let one = only n from w (All-head P from froms few) in
    let cons = sum_by-cons (λ (x : ℕ). one_if (x == item)) y items in
    sum_to_same n (λ d. times item (items_from d (from ∷ froms) (y ∷ items))) (λ d. (if from == d then w else 0) + times item (items_from d froms items))
    (λ d. times_one item y (from == d) (items_from d froms items))
    ∙ sum_to_more n (λ d. if from == d then w else 0) (λ d. times item (items_from d froms items))
    ∙ (let e : sum_to n (λ d. if from == d then w else 0) + sum_to n (λ d. times item (items_from d froms items)) ≡ times item (y ∷ items) = omega arith in e)

-- ---- all owners

-- sums change places
exchange : (n : ℕ) (f : ℕ → Owner → ℕ) (owners : List Owner) → sum_by (λ (o : Owner). sum_to n (λ d. f d o)) owners ≡ sum_to n (λ d. sum_by (f d) owners)
exchange n f [] = sym (sum_to_none n)
exchange n f (o ∷ owners) =
    let rest = exchange n f owners in
    let cons = sum_by-cons (λ (o : Owner). sum_to n (λ d. f d o)) o owners in
    let more = sum_to_more n (λ d. f d o) (λ d. sum_by (f d) owners) in
    let same = sum_to_same n (λ d. sum_by (f d) (o ∷ owners)) (λ d. f d o + sum_by (f d) owners) (λ d. sum_by-cons (f d) o owners) in
    omega arith

-- sums over owners that are alike
alike : (f g : Owner → ℕ) (owners : List Owner) → ((i : ℕ) (o : Owner) → slice_get owners i ≡ Some o → f o ≡ g o) → sum_by f owners ≡ sum_by g owners
alike f g [] all = refl
alike f g (o ∷ owners) all =
    let rest = alike f g owners (λ i x at. all (suc i) x at) in
    let one = all 0 o refl in
    let a = sum_by-cons f o owners in
    let b = sum_by-cons g o owners in
    omega arith

-- sums by numbers that are alike so far
same_so_far : (n : ℕ) (f g : ℕ → ℕ) → ((d : ℕ) → d < n → f d ≡ g d) → sum_to n f ≡ sum_to n g
same_so_far zero f g all = refl
same_so_far (suc n) f g all = let last = all n (omega arith) in let rest = same_so_far n f g (λ d less. all d (omega arith)) in omega arith

-- a sum over stretches
by_line : (f : Share → ℕ) (g : List ℕ → ℕ) (line : List Share) → ((s : Share) → f s ≡ g s.items) → sum_to (length line) (λ d. g (share_at line d)) ≡ sum_by f line
by_line f g [] same = refl
by_line f g (s ∷ line) same =
    let rest = by_line f g line same in
    let first = sum_to_first (length line) (λ d. g (share_at (s ∷ line) d)) in
    let cons = sum_by-cons f s line in
    let one = same s in
    omega arith

-- each item stands in all owners' lists as often as in all stretches
pub all_once : (line : List Share) (item : ℕ) (owners : List Owner) → ((i : ℕ) (o : Owner) → slice_get owners i ≡ Some o → length (from_of o) ≡ length (taken_by o))
    → ((i : ℕ) (o : Owner) → slice_get owners i ≡ Some o → All (λ (d : ℕ). d < length line) (from_of o))
    → ((d : ℕ) → d < length line → sum_by (λ (o : Owner). times item (taken_from d o)) owners ≡ times item (share_at line d))
    → sum_by (λ (o : Owner). times item (taken_by o)) owners ≡ sum_by (λ (s : Share). times item s.items) line
all_once line item owners both few each =
    let n = length line in
    alike (λ (o : Owner). times item (taken_by o)) (λ (o : Owner). sum_to n (λ d. times item (taken_from d o))) owners (λ i o at. sym (times_all n item (from_of o) (taken_by o) (both i o at) (few i o at)))
    ∙ exchange n (λ d o. times item (taken_from d o)) owners
    ∙ same_so_far n (λ d. sum_by (λ (o : Owner). times item (taken_from d o)) owners) (λ d. times item (share_at line d)) each
    ∙ by_line (λ (s : Share). times item s.items) (times item) line (λ s. refl)

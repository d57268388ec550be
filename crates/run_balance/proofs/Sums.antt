-- Sums over the views of all passes.
use Rattle.std.proofs.Common.{◌≡◌, ◌≢◌, ℕ, zero, suc, ◌+◌, ◌<◌, ◌≤◌, List, [], ◌∷◌, set, sum_by, refl, sym, ap, subst, arith}
use mathlib.Core.Option.{some, some-injective, some-ne-none}
use lib.ListN.{get_elem?}
use Rattle.std.proofs.lemmas.List.Sums.{sum_by-cons}
use Rattle.run_balance.specs.Logs.{Logged}

-- after a change of one view
pub sum_set : (f : Logged → ℕ) (views : List Logged) (port : ℕ) (v w : Logged) → get_elem? views port ≡ some v → sum_by f (set views port w) + f v ≡ sum_by f views + f w
sum_set f [] port v w at = absurd (some-ne-none v (sym at))
sum_set f (x ∷ xs) zero v w at = let same = ap f (some-injective x v at) in let a = sum_by-cons f w xs in let b = sum_by-cons f x xs in omega arith
sum_set f (x ∷ xs) (suc port) v w at =
    let rest = sum_set f xs port v w at in let a = sum_by-cons f x (set xs port w) in let b = sum_by-cons f x xs in omega arith

-- the view of one pass is a part
pub sum_one : (f : Logged → ℕ) (views : List Logged) (port : ℕ) (v : Logged) → get_elem? views port ≡ some v → f v ≤ sum_by f views
sum_one f [] port v at = absurd (some-ne-none v (sym at))
sum_one f (x ∷ xs) zero v at = let same = ap f (some-injective x v at) in let b = sum_by-cons f x xs in omega arith
sum_one f (x ∷ xs) (suc port) v at = let rest = sum_one f xs port v at in let b = sum_by-cons f x xs in omega arith

-- those of two are
pub sum_two : (f : Logged → ℕ) (views : List Logged) (i j : ℕ) (u v : Logged) → i ≢ j → get_elem? views i ≡ some u → get_elem? views j ≡ some v → f u + f v ≤ sum_by f views
sum_two f [] i j u v apart at at' = absurd (some-ne-none u (sym at))
sum_two f (x ∷ xs) zero zero u v apart at at' = absurd (apart refl)
sum_two f (x ∷ xs) zero (suc j) u v apart at at' = let same = ap f (some-injective x u at) in let rest = sum_one f xs j v at' in let b = sum_by-cons f x xs in omega arith
sum_two f (x ∷ xs) (suc i) zero u v apart at at' = let same = ap f (some-injective x v at') in let rest = sum_one f xs i u at in let b = sum_by-cons f x xs in omega arith
sum_two f (x ∷ xs) (suc i) (suc j) u v apart at at' =
    let rest = sum_two f xs i j u v (λ e. apart (ap suc e)) at at' in let b = sum_by-cons f x xs in omega arith

-- one that is no more than another in each view
pub sum_below : (f g : Logged → ℕ) (views : List Logged) → ((port : ℕ) (v : Logged) → get_elem? views port ≡ some v → f v ≤ g v) → sum_by f views ≤ sum_by g views
sum_below f g [] all = omega arith
sum_below f g (x ∷ xs) all =
    let one = all 0 x refl in let rest = sum_below f g xs (λ port v at. all (suc port) v at) in let a = sum_by-cons f x xs in let b = sum_by-cons g x xs in omega arith

-- and less in one
pub sum_less : (f g : Logged → ℕ) (views : List Logged) (port : ℕ) (v : Logged) → ((i : ℕ) (u : Logged) → get_elem? views i ≡ some u → f u ≤ g u) → get_elem? views port ≡ some v → f v < g v → sum_by f views < sum_by g views
sum_less f g [] port v all at less = absurd (some-ne-none v (sym at))
sum_less f g (x ∷ xs) zero v all at less =
    let one : f x < g x = subst (λ (u : Logged). f u < g u) (sym (some-injective x v at)) less in
    let rest = sum_below f g xs (λ i u at. all (suc i) u at) in let a = sum_by-cons f x xs in let b = sum_by-cons g x xs in omega arith
sum_less f g (x ∷ xs) (suc port) v all at less =
    let one = all 0 x refl in let rest = sum_less f g xs port v (λ i u at. all (suc i) u at) at less in let a = sum_by-cons f x xs in let b = sum_by-cons g x xs in omega arith

-- nothing in each
pub sum_none : (f : Logged → ℕ) (views : List Logged) → ((port : ℕ) (v : Logged) → get_elem? views port ≡ some v → f v ≡ 0) → sum_by f views ≡ 0
sum_none f [] all = refl
sum_none f (x ∷ xs) all = let one = all 0 x refl in let rest = sum_none f xs (λ port v at. all (suc port) v at) in let a = sum_by-cons f x xs in omega arith

-- in each but one
pub sum_alone : (f : Logged → ℕ) (views : List Logged) (port : ℕ) (v : Logged) → get_elem? views port ≡ some v → ((j : ℕ) (u : Logged) → j ≢ port → get_elem? views j ≡ some u → f u ≡ 0) → sum_by f views ≡ f v
sum_alone f [] port v at others = absurd (some-ne-none v (sym at))
sum_alone f (x ∷ xs) zero v at others =
    let same = ap f (some-injective x v at) in let rest = sum_none f xs (λ j u at'. others (suc j) u (λ e. absurd (omega arith)) at') in let a = sum_by-cons f x xs in omega arith
sum_alone f (x ∷ xs) (suc port) v at others =
    let one = others 0 x (λ e. absurd (omega arith)) refl in
    let rest = sum_alone f xs port v at (λ j u n at'. others (suc j) u (λ e. n (omega arith)) at') in let a = sum_by-cons f x xs in omega arith

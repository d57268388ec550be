-- Counts of the items of a list that pass a test.
use Rattle.std.proofs.Common.{◌≡◌, ◌≢◌, zero, suc, ◌+◌, Bool, true, false, cond, List, [], ◌∷◌, ◌++◌, Contains, count_by, refl, sym, ap, ◌∙◌, arith}
use Rattle.std.proofs.lemmas.List.Sums.{sum_by-append, sum_by-cons}
use Rattle.std.proofs.lemmas.List.{append-nil}
use Rattle.cell_depend.specs.Events.{Leaves, Joins}

-- one more item at the end
pub Joins-push : {X : Type 0} (item : X) (xs : List X) → Joins item xs (xs ++ item ∷ [])
Joins-push item xs = record { front = xs; back = []; was = refl; is = sym (append-nil xs) }

-- an item that leaves takes its own part of the count with it
pub count_by-Leaves : {X : Type 0} (p : X → Bool) (item : X) (old new : List X) → Leaves item old new → count_by p old ≡ count_by p new + cond (p item) 1 0
count_by-Leaves p item old new leaves =
    let was = sum_by-append (λ x. cond (p x) 1 0) leaves.front (item ∷ leaves.back) in
    let split = sum_by-cons (λ x. cond (p x) 1 0) item leaves.back in
    let is = sum_by-append (λ x. cond (p x) 1 0) leaves.front leaves.back in
    rw (leaves.was, leaves.is) (omega (arith, was, split, is))

-- the count of a list, by its first item
count_by-cons : {X : Type 0} (p : X → Bool) (x : X) (xs : List X) → count_by p (x ∷ xs) ≡ cond (p x) 1 0 + count_by p xs
count_by-cons p x xs = sum_by-cons (λ y. cond (p y) 1 0) x xs

-- an item behind another
Contains-behind : {X : Type 0} (y : X) (xs : List X) (x : X) → Contains xs x → Contains (y ∷ xs) x
Contains-behind y xs x found = (suc found.0, omega (arith, found.1), found.2)

-- an item that passes is the first one, or one of the rest that are counted
first_or_rest : {X : Type 0} (p : X → Bool) (x : X) (xs : List X) (b : Bool) → p x ≡ b → count_by p (x ∷ xs) ≢ 0
    → (count_by p xs ≢ 0 → (y : X) × Contains xs y × (p y ≡ true)) → (y : X) × Contains (x ∷ xs) y × (p y ≡ true)
first_or_rest p x xs true passes some rest = (x, (0, omega arith, refl), passes)
first_or_rest p x xs false fails some rest =
    let split : count_by p (x ∷ xs) ≡ 0 + count_by p xs = count_by-cons p x xs ∙ ap (λ b. cond b 1 0 + count_by p xs) fails in
    let found = rest (λ none. some (omega (arith, split, none))) in
    (found.0, Contains-behind x xs found.0 found.1, found.2)

-- a count above 0 is of some item
pub item-counted : {X : Type 0} (p : X → Bool) (xs : List X) → count_by p xs ≢ 0 → (x : X) × Contains xs x × (p x ≡ true)
item-counted p [] some = absurd (some refl)
item-counted p (x ∷ xs) some = first_or_rest p x xs (p x) refl some (item-counted p xs)

-- an item that passes is counted
pub counted-item : {X : Type 0} (p : X → Bool) (xs : List X) (x : X) → Contains xs x → p x ≡ true → count_by p xs ≢ 0
counted-item p [] x found passes = absurd (omega (arith, found.1))
counted-item p (y ∷ xs) x (zero, within, is) passes = let one : count_by p (y ∷ xs) ≡ 1 + count_by p xs = count_by-cons p y xs ∙ ap (λ b. cond b 1 0 + count_by p xs) (ap p is ∙ passes) in λ none. omega (arith, one, none)
counted-item p (y ∷ xs) x (suc k, within, is) passes =
    let rest = counted-item p xs x (k, omega (arith, within), is) passes in
    let split = count_by-cons p y xs in
    λ none. rest (omega (arith, split, none))

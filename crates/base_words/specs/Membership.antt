-- Members of sets and of lists.
use Rattle.std.specs.Prelude.{◌≡◌, ◌⊎◌, ℕ, List, [], ◌∷◌, Bool, true, false, slice_index_or}

-- this number is a member of a set of small numbers, which has for each number whether it is one
abbrev pub IsMember : List Bool → ℕ → Type 0
IsMember members number = slice_index_or members number false ≡ true

-- no number is a member
abbrev pub HasNone : List Bool → Type 0
HasNone members = (number : ℕ) → slice_index_or members number false ≡ false

-- a list has this item
abbrev pub Has : {A : Type 0} → List A → A → Type 0
Has [] x = ⊥
Has (y ∷ ys) x = (y ≡ x) ⊎ Has ys x

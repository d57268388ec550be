-- The work as it is dealt: the stretches of all processors, one behind the other.
use Rattle.std.specs.Prelude.{◌≡◌, ℕ, zero, suc, ◌+◌, ◌<◌, List, [], ◌∷◌, ◌++◌, length, slice_index_or}

-- a stretch: whose it is, and its items in order
pub record Share : Type 0 where
  pub whose : ℕ
  pub items : List ℕ

abbrev pub share_of : ℕ → List ℕ → Share
share_of p items = record { whose = p; items = items }

-- the stretches of one processor, and of all from a number on
abbrev pub own_shares : ℕ → List (List ℕ) → List Share
own_shares p [] = []
own_shares p (items ∷ own) = share_of p items ∷ own_shares p own

abbrev pub flat_from : ℕ → List (List (List ℕ)) → List Share
flat_from p [] = []
flat_from p (own ∷ shares) = own_shares p own ++ flat_from (suc p) shares

-- all stretches: there is a deque for each, of the same number
abbrev pub flat : List (List (List ℕ)) → List Share
flat shares = flat_from 0 shares

-- whose a stretch is, and its items
abbrev pub whose_at : List Share → ℕ → ℕ
whose_at line d = (slice_index_or line d (share_of 0 [])).whose

abbrev pub share_at : List Share → ℕ → List ℕ
share_at line d = (slice_index_or line d (share_of 0 [])).items

-- where a processor's stretches begin among all
abbrev pub first_of : List (List (List ℕ)) → ℕ → ℕ
first_of shares zero = 0
first_of [] (suc p) = 0
first_of (own ∷ shares) (suc p) = length own + first_of shares p

abbrev pub stretches_of : List (List (List ℕ)) → ℕ → List (List ℕ)
stretches_of shares p = slice_index_or shares p []

-- the number of a processor's stretch among all
abbrev pub deque_no : List (List (List ℕ)) → ℕ → ℕ → ℕ
deque_no shares p k = first_of shares p + k

-- a processor's whole share: its stretches one behind the other
abbrev pub joined : List (List ℕ) → List ℕ
joined [] = []
joined (items ∷ own) = items ++ joined own

-- where such a stretch stands
pub record StandsThere (shares : List (List (List ℕ))) (p k : ℕ) : Type 0 where
  pub inside : deque_no shares p k < length (flat shares)
  pub whose : whose_at (flat shares) (deque_no shares p k) ≡ p
  pub items : share_at (flat shares) (deque_no shares p k) ≡ slice_index_or (stretches_of shares p) k []

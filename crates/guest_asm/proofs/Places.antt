-- The first place of a byte, and how far it is.
use Rattle.std.proofs.Common.{◌≡◌, ℕ, ◌≤◌, Bool, cond, List, length, Option, Some, None, arith, ltb, rules}
use Rattle.std.specs.Option.{unwrap_or}
use Rattle.std.specs.List.{position_or_len}
use Rattle.std.proofs.lemmas.List.Sums.{prefix_len-le-length}

-- the first place, or else the length, is the place from which on the rest is looked at
pub place_or_length : {X : Type 0} (p : X → Bool) (xs : List X) (found : Option ℕ)
    → found ≡ cond (ltb (position_or_len p xs) (length xs)) (Some (position_or_len p xs)) None
    → unwrap_or found (length xs) ≡ position_or_len p xs
place_or_length p xs found is =
    let within : position_or_len p xs ≤ length xs = prefix_len-le-length _ xs in
    grind (arith, rules)

pub place_within : {X : Type 0} (p : X → Bool) (xs : List X) → position_or_len p xs ≤ length xs
place_within p xs = prefix_len-le-length _ xs

-- Marks beside the places, by which the places that may hold a page are found: the places stand in 32 groups of 16, pages are
-- told apart by the low 6 bits of their numbers, and there is a mark for each of both.
use Rattle.std.specs.Prelude.{◌≡◌, ℕ, ◌+◌, ◌*◌, ◌/◌, ◌%◌, ◌<◌, ◌==◌, List, Bool, true, false, Option, Some, None, length, slice_index_or}
use Rattle.private_machine.specs.SecondLevel.{Second}

-- the mark for a page at a place
abbrev pub mark_of : ℕ → ℕ → ℕ
mark_of page place = page % 64 * 32 + place / 16

-- the mark for an entry's page at its place is on
abbrev pub IsMarked : List Bool → ℕ → Option Second → Type 0
IsMarked marks place None = Unit {0}
IsMarked marks place (Some e) = slice_index_or marks (mark_of e.page place) false ≡ true

-- an entry's page has the low 6 bits of a page
abbrev pub is_of_kind : ℕ → Option Second → Bool
is_of_kind page None = false
is_of_kind page (Some e) = e.page % 64 == page % 64

-- that of each entry is on; others may be on too
pub record AreMarked (places : List (Option Second)) (marks : List Bool) : Type 0 where
  pub all : length marks ≡ 2048
  pub marked : (place : ℕ) → place < 512 → IsMarked marks place (slice_index_or places place None)

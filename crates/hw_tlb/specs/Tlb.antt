-- What a caller sees of the processor's TLB: 48 entries, each with a place for the half of an even virtual page and one for that
-- of the odd page after it.
use Rattle.std.specs.Prelude.{◌≡◌, ℕ, ◌+◌, ◌*◌, ◌/◌, ◌%◌, ◌<◌, ◌≤◌, ◌==◌, if◌then◌else◌, Bool, true, not, ◌&&◌, List, filter, filter_map, length, replicate, Option, Some, None, slice_index_or}
use Rattle.base_words.specs.Halves.{Half, is_of}

-- the TLB: a half or none at each place, where entry e has places 2 * e and 2 * e + 1; and the entry whose turn it is
pub record Tlb : Type 0 where
  pub places : List (Option Half)
  pub next : ℕ

-- the half at a place, if there is one
abbrev pub half_at : List (Option Half) → ℕ → Option Half
half_at places place = slice_index_or places place None

-- the halves of these places, in order
abbrev pub standing : List (Option Half) → List Half
standing places = filter_map (λ place. place) places

-- the valid halves of the TLB, in the order of their places
abbrev pub halves : Tlb → List Half
halves t = standing t.places

-- the side of its entry on which a half stands: 0 for an even virtual page, 1 for an odd one
abbrev pub side : Half → ℕ
side h = h.number % 2

-- two halves may share an entry: they are of one pair of virtual pages, one address space and one global mark
abbrev pub are_beside : Half → Half → Bool
are_beside a b = (a.number / 2 == b.number / 2) && ((a.asid == b.asid) && (if a.global then b.global else not b.global))

-- at most one half is of a virtual page in an address space
abbrev pub IsUnambiguous : List Half → Type 0
IsUnambiguous hs = (number asid : ℕ) → length (filter (is_of number asid) hs) ≤ 1

-- each half stands on its own side
abbrev pub AreSided : List (Option Half) → Type 0
AreSided places = (place : ℕ) (h : Half) → half_at places place ≡ Some h → side h ≡ place % 2

-- the two halves of an entry may share it
abbrev pub ArePaired : List (Option Half) → Type 0
ArePaired places = (entry : ℕ) (even odd : Half) → half_at places (2 * entry) ≡ Some even → half_at places (2 * entry + 1) ≡ Some odd
    → are_beside even odd ≡ true

-- what holds of the TLB at every moment
pub record IsConsistent (t : Tlb) : Type 0 where
  pub long : length t.places ≡ 96
  pub turn : t.next < 48
  pub unambiguous : IsUnambiguous (halves t)
  pub sided : AreSided t.places
  pub paired : ArePaired t.places

-- 96 places without a half
abbrev pub no_halves : List (Option Half)
no_halves = replicate 96 None

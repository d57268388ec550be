-- How the processor's TLB keeps its halves: a room for each place, counts of the halves, and for some virtual pages a hint where
-- to look first.
use Rattle.std.specs.Prelude.{◌≡◌, ◌≢◌, ℕ, ◌/◌, ◌%◌, ◌<◌, ◌≤◌, ◌==◌, nat_lt, length, map, if◌then◌else◌, Bool, true, false, List, Option, Some, None, slice_index_or}
use Rattle.base_words.specs.Halves.{Half, is_of, clash}
use Rattle.hw_tlb.specs.declared.room.Room.{Room}
use Rattle.hw_tlb.specs.Tlb.{half_at, AreSided, ArePaired}
use Rattle.hw_tlb.specs.Filling.{has_such}
use Rattle.hw_tlb.specs.Counts.{AreCounts, is_numbered, is_spaced, is_shared}

-- a room's key is the virtual page's number times 256 and the ASID; one past all keys marks a room without a half
abbrev pub half_of : Room → Half
half_of r = record {
  number = r.key / 256;
  asid = r.key % 256;
  global = r.global;
  page = r.page.0;
  frame = r.frame.0;
  writable = r.writable;
}

-- the half in a room, if there is one
abbrev pub half_in : Room → Option Half
half_in r = if nat_lt r.key 268435456 then Some (half_of r) else None

-- the rooms as a caller sees them
abbrev pub places_of : List Room → List (Option Half)
places_of rooms = map half_in rooms

-- a half is of the virtual page and the address space of this key
abbrev pub is_keyed : ℕ → Half → Bool
is_keyed key h = is_of (key / 256) (key % 256) h

-- the place of a half of this key, or 96 where there is none
pub record IsPlaceOf (key : ℕ) (places : List (Option Half)) (place : ℕ) : Type 0 where
  pub found : place < 96 → has_such (is_keyed key) (half_at places place) ≡ true
  pub none : 96 ≤ place → (k : ℕ) → k < 96 → has_such (is_keyed key) (half_at places k) ≡ false

-- the place of a half that names this frame, or 96 where there is none
abbrev pub is_naming : ℕ → Half → Bool
is_naming frame h = h.frame == frame

pub record IsPlaceNaming (frame : ℕ) (places : List (Option Half)) (place : ℕ) : Type 0 where
  pub found : place < 96 → has_such (is_naming frame) (half_at places place) ≡ true
  pub none : 96 ≤ place → (k : ℕ) → k < 96 → has_such (is_naming frame) (half_at places k) ≡ false

-- no two places have halves that clash
abbrev pub AreApart : List (Option Half) → Type 0
AreApart places = (i j : ℕ) (a b : Half) → i ≢ j → half_at places i ≡ Some a → half_at places j ≡ Some b → clash a b ≡ false

-- where halves may stand
pub record AreInOrder (places : List (Option Half)) : Type 0 where
  pub apart : AreApart places
  pub sided : AreSided places
  pub paired : ArePaired places

-- what the fields that keep the halves have in common: the counts are exact
pub record AreCounted (rooms : List Room) (numbered spaced shared : List ℕ) : Type 0 where
  pub long : length rooms ≡ 96
  pub by_number : AreCounts is_numbered numbered (places_of rooms)
  pub by_key : AreCounts is_spaced spaced (places_of rooms)
  pub globals : AreCounts is_shared shared (places_of rooms)

-- a hint may lead anywhere among the places
pub record AreHints (hints : List ℕ) : Type 0 where
  pub wide : length hints ≡ 256
  pub within : (bucket : ℕ) → bucket < 256 → slice_index_or hints bucket 0 < 96

-- what the places and the turn have in common
pub record Sound (places : List (Option Half)) (next : ℕ) : Type 0 where
  pub order : AreInOrder places
  pub long : length places ≡ 96
  pub turn : next < 48

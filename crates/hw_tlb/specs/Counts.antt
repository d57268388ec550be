-- How many halves there are of each bucket. A bucket has the virtual pages that share a count.
use Rattle.std.specs.Prelude.{◌≡◌, ◌≢◌, ℕ, ◌+◌, ◌-◌, ◌*◌, ◌/◌, ◌%◌, ◌<◌, ◌==◌, Bool, true, false, not, ◌&&◌, List, Option, Some, count_by, length, slice_index_or, slice_set}
use Rattle.base_words.specs.Halves.{Half, clash}
use Rattle.hw_tlb.specs.Tlb.{half_at, side, are_beside}
use Rattle.hw_tlb.specs.Dropping.{emptied}
use Rattle.hw_tlb.specs.Filling.{has_such, first_entry}

-- the bucket of a virtual page's number
abbrev pub bucket_of_number : ℕ → ℕ
bucket_of_number number = (number + number / 256) % 256

-- the bucket of a virtual page's number in an address space
abbrev pub bucket_of_key : ℕ → ℕ → ℕ
bucket_of_key number asid = (number + number / 256 + 37 * asid) % 256

-- the number of the pair's other virtual page
abbrev pub other_number : Half → ℕ
other_number h = 2 * (h.number / 2) + (1 - side h)

-- a half, of one address space or of all, whose number is of this bucket
abbrev pub is_numbered : ℕ → Half → Bool
is_numbered bucket h = bucket_of_number h.number == bucket

-- a half of one address space that is of this bucket there
abbrev pub is_spaced : ℕ → Half → Bool
is_spaced bucket h = not h.global && (bucket_of_key h.number h.asid == bucket)

-- a half of all address spaces whose number is of this bucket
abbrev pub is_shared : ℕ → Half → Bool
is_shared bucket h = h.global && (bucket_of_number h.number == bucket)

-- how many places have such a half
abbrev pub count : (Half → Bool) → List (Option Half) → ℕ
count is_such places = count_by (has_such is_such) places

-- these are the counts of the halves of each bucket
pub record AreCounts (is_in : ℕ → Half → Bool) (counts : List ℕ) (places : List (Option Half)) : Type 0 where
  pub wide : length counts ≡ 256
  pub exact : (bucket : ℕ) → bucket < 256 → slice_index_or counts bucket 0 ≡ count (is_in bucket) places

-- no place has such a half
abbrev pub HasNoSuch : (Half → Bool) → List (Option Half) → Type 0
HasNoSuch is_such places = (place : ℕ) → has_such is_such (half_at places place) ≡ false

-- no place but this has such a half
abbrev pub HasNoSuchBut : (Half → Bool) → List (Option Half) → ℕ → Type 0
HasNoSuchBut is_such places place = (other : ℕ) → other ≢ place → has_such is_such (half_at places other) ≡ false

-- on this side of the entries, only this place has such a half
pub record IsOnlyOn (is_such : Half → Bool) (side : ℕ) (places : List (Option Half)) (place : ℕ) : Type 0 where
  pub here : has_such is_such (half_at places place) ≡ true
  pub on : place % 2 ≡ side
  pub away : (entry : ℕ) → 2 * entry + side ≢ place → has_such is_such (half_at places (2 * entry + side)) ≡ false

-- on this side of the entries, no place has such a half
abbrev pub HasNoSuchOn : (Half → Bool) → ℕ → List (Option Half) → Type 0
HasNoSuchOn is_such side places = (entry : ℕ) → has_such is_such (half_at places (2 * entry + side)) ≡ false

-- an entry that has a half with which the new one clashes, on the side of the new one, is this one, or the first is
abbrev pub IsFirst : Half → ℕ → List (Option Half) → Type 0
IsFirst new entry places = (first : ℕ) → first_entry (clash new) (side new) places ≡ Some first → first ≡ entry

-- the places once a half stands in an entry, where no half elsewhere clashes with it
abbrev pub settled : Half → ℕ → List (Option Half) → List (Option Half)
settled new entry places =
    let other = 2 * entry + (1 - side new) in
    let beside = emptied (λ h. not (are_beside new h)) (half_at places other) in
    slice_set (slice_set places other beside) (2 * entry + side new) (Some new)

-- How a half joins the processor's TLB.
use Rattle.std.specs.Prelude.{ℕ, ◌+◌, ◌-◌, ◌*◌, ◌/◌, ◌%◌, Bool, false, not, List, find, map, Option, Some, None, unwrap_or, slice_set}
use Rattle.std.specs.List.{range_with_len}
use Rattle.base_words.specs.declared.ids.Ppn.{Ppn}
use Rattle.base_words.specs.declared.ids.FrameNo.{FrameNo}
use Rattle.base_words.specs.Halves.{Half, clash}
use Rattle.hw_tlb.specs.Tlb.{Tlb, half_at, side, are_beside}
use Rattle.hw_tlb.specs.Dropping.{emptied}

-- the half that is filled for an address
abbrev pub half_for : ℕ → ℕ → Bool → Ppn → FrameNo → Bool → Half
half_for address asid global page frame writable = record {
  number = address / 4096;
  asid = asid;
  global = global;
  page = page.0;
  frame = frame.0;
  writable = writable;
}

-- a place has such a half
abbrev pub has_such : (Half → Bool) → Option Half → Bool
has_such is_such None = false
has_such is_such (Some h) = is_such h

-- the first entry that has such a half on this side
unfoldable pub first_entry : (Half → Bool) → ℕ → List (Option Half) → Option ℕ
first_entry is_such side places = find (λ entry. has_such is_such (half_at places (2 * entry + side))) (range_with_len 0 48)

abbrev pub or_else : Option ℕ → Option ℕ → Option ℕ
or_else None other = other
or_else (Some entry) other = Some entry

-- The entry that a half finds, if there is one: the first in whose place on its own side it would clash, else the first whose
-- other half it may stand beside.
abbrev pub found_entry : Half → List (Option Half) → Option ℕ
found_entry new places =
    or_else (first_entry (clash new) (side new) places) (first_entry (are_beside new) (1 - side new) places)

-- The places once a half stands in an entry: all halves that clash with it go, and so does the entry's other half where the two
-- may not share it.
abbrev pub placed : Half → ℕ → List (Option Half) → List (Option Half)
placed new entry places =
    let cleared = map (emptied (clash new)) places in
    let other = 2 * entry + (1 - side new) in
    let beside = emptied (λ h. not (are_beside new h)) (half_at cleared other) in
    slice_set (slice_set cleared other beside) (2 * entry + side new) (Some new)

-- whose turn it is afterwards: where no entry was found the turn was taken, and after the last entry comes the first
abbrev pub turn_after : Option ℕ → ℕ → ℕ
turn_after None next = (next + 1) % 48
turn_after (Some entry) next = next

-- The TLB after a half is filled: it stands in the entry that it finds, else in the one whose turn it is.
abbrev pub filled : Half → Tlb → Tlb
filled new t =
    let found = found_entry new t.places in
    record { places = placed new (unwrap_or found t.next) t.places; next = turn_after found t.next }

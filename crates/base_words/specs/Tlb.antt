-- The TLB of a guest (MIPS R4000 User's Manual, chapter 4, "Memory Management").
use Rattle.std.specs.Prelude.{ℕ, ◌+◌, ◌*◌, ◌^◌, ◌==◌, nat_lt, if◌then◌else◌, Bool, not, ◌&&◌, ◌||◌, List, map, find, position, Option, Some, None, slice_index_or, slice_set, length}
use Rattle.std.specs.List.{range_with_len}
use Rattle.base_words.specs.declared.tlb.Entry.{Entry}
use Rattle.base_words.specs.declared.tlb.TlbAnswer.{TlbAnswer}
use Rattle.base_words.specs.declared.tlb.TlbAnswer.TheVariants.{Hit, Miss, Invalid, ReadOnly}
use Rattle.base_words.specs.Bits.{bits, flag, bit}

-- the fields of an address and of EntryHi: VPN2, the half of the pair, ASID
abbrev pub page_pair : ℕ → ℕ
page_pair word = bits 31 13 word

abbrev pub is_odd : ℕ → Bool
is_odd address = flag 12 address

abbrev pub address_space : ℕ → ℕ
address_space hi = bits 7 0 hi

-- the fields of EntryLo0 and EntryLo1: PFN, D, V, G
abbrev pub frame : ℕ → ℕ
frame lo = bits 29 6 lo

abbrev pub is_dirty : ℕ → Bool
is_dirty lo = flag 2 lo

abbrev pub is_valid : ℕ → Bool
is_valid lo = flag 1 lo

abbrev pub is_global : Entry → Bool
is_global entry = flag 0 entry.lo0 && flag 0 entry.lo1

-- an entry is of this pair of pages, and of this address space or of all
abbrev pub matches : ℕ → ℕ → Entry → Bool
matches pair asid entry = (page_pair entry.hi == pair) && (is_global entry || (address_space entry.hi == asid))

-- the half of an entry in which an address lies
abbrev pub half : ℕ → Entry → ℕ
half address entry = if is_odd address then entry.lo1 else entry.lo0

-- what a half says of a use, a store or another
abbrev pub permitted : Bool → ℕ → TlbAnswer
permitted store lo =
    if not (is_valid lo) then Invalid
    else if store && not (is_dirty lo) then ReadOnly
    else Hit (frame lo)

abbrev pub answer : ℕ → Bool → Option Entry → TlbAnswer
answer address store None = Miss
answer address store (Some entry) = permitted store (half address entry)

-- What the TLB says of an address in an address space: the entry of the lowest index that matches counts.
abbrev pub looked_up : List Entry → ℕ → ℕ → Bool → TlbAnswer
looked_up entries address asid store = answer address store (find (matches (page_pair address) asid) entries)

-- the lowest entry that matches EntryHi
abbrev pub probed : List Entry → ℕ → Option ℕ
probed entries hi = position (matches (page_pair hi) (address_space hi)) entries

-- an entry as the TLB keeps it: it is global where both halves are marked so
abbrev pub kept_lo : Bool → ℕ → ℕ
kept_lo global lo = bits 29 1 lo * 2 + bit global

abbrev pub kept : Entry → Entry
kept entry = record {
  hi = page_pair entry.hi * 2 ^ 13 + address_space entry.hi;
  lo0 = kept_lo (is_global entry) entry.lo0;
  lo1 = kept_lo (is_global entry) entry.lo1;
}

-- the entries after a write; one past the last changes nothing
abbrev pub entry_written : List Entry → ℕ → Entry → List Entry
entry_written entries index entry = if nat_lt index (length entries) then slice_set entries index (kept entry) else entries

-- an entry as it is read; one past the last is zeros
abbrev pub entry_read : List Entry → ℕ → Entry
entry_read entries index = slice_index_or entries index (record { hi = 0; lo0 = 0; lo1 = 0 })

-- entry i at the start: no address that is mapped lies in its pair of pages
abbrev pub entry_at_reset : ℕ → Entry
entry_at_reset i = record { hi = 0x8000_0000 + 0x2000 * i; lo0 = 0; lo1 = 0 }

abbrev pub tlb_at_reset : List Entry
tlb_at_reset = map entry_at_reset (range_with_len 0 48)

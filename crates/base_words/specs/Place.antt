-- Where an address leads (MIPS R4000 User's Manual, chapter 4, "Virtual-to-Physical Address Translation"), with this
-- machine's ranges: the guest's kernel reaches its physical memory directly from C0000000 on.
use Rattle.std.specs.Prelude.{ℕ, ◌+◌, ◌-◌, ◌*◌, ◌/◌, ◌%◌, ◌==◌, nat_lt, if◌then◌else◌, Bool, true, false, List, Result, Ok, Err}
use Rattle.base_words.specs.declared.exception.Use.{Use}
use Rattle.base_words.specs.declared.exception.Use.TheVariants.{Fetch, Load, Store}
use Rattle.base_words.specs.declared.exception.Exception.{Exception}
use Rattle.base_words.specs.declared.exception.Exception.TheVariants.{TlbModified, TlbRefill, TlbInvalid, AddressError, BusError}
use Rattle.base_words.specs.declared.tlb.Entry.{Entry}
use Rattle.base_words.specs.declared.tlb.TlbAnswer.{TlbAnswer}
use Rattle.base_words.specs.declared.tlb.TlbAnswer.TheVariants.{Hit, Miss, Invalid, ReadOnly}
use Rattle.base_words.specs.declared.place.Place.{Place}
use Rattle.base_words.specs.declared.place.Place.TheVariants.{Memory, Device}
use Rattle.base_words.specs.Tlb.{looked_up}

-- how a range of addresses is translated
pub data Segment : Type 0 where
  Mapped : Segment
  Direct : Segment
  Outside : Segment

-- the range in which an address lies, for user code or for the kernel
abbrev pub segment : Bool → ℕ → Segment
segment true address = if nat_lt address 0x8000_0000 then Mapped else Outside
segment false address =
    if nat_lt address 0x8000_0000 then Mapped
    else if nat_lt address 0xC000_0000 then Outside
    else if nat_lt address 0xD000_0000 then Direct
    else if nat_lt address 0xE000_0000 then Mapped
    else Outside

-- a physical address: memory below the guest's pages, the device page, or nothing
abbrev pub physical : ℕ → Use → ℕ → Result Place Exception
physical pages purpose address =
    if nat_lt (address / 4096) pages then Ok (Memory address)
    else if address / 4096 == 0xFFFF then Ok (Device (address % 4096))
    else Err (BusError purpose)

-- what decides where the addresses of a virtual processor lead: its mode, ASID and TLB
pub record AddressSpace : Type 0 where
  pub user : Bool
  pub asid : ℕ
  pub entries : List Entry

abbrev pub is_store : Use → Bool
is_store Fetch = false
is_store Load = false
is_store Store = true

-- by what the TLB answers
abbrev pub through_tlb : ℕ → Use → ℕ → TlbAnswer → Result Place Exception
through_tlb pages purpose address (Hit frame) = physical pages purpose (frame * 4096 + address % 4096)
through_tlb pages purpose address Miss = Err (TlbRefill purpose address)
through_tlb pages purpose address Invalid = Err (TlbInvalid purpose address)
through_tlb pages purpose address ReadOnly = Err (TlbModified address)

abbrev pub translated : AddressSpace → ℕ → Use → ℕ → Segment → Result Place Exception
translated space pages purpose address Mapped = through_tlb pages purpose address (looked_up space.entries address space.asid (is_store purpose))
translated space pages purpose address Direct = physical pages purpose (address - 0xC000_0000)
translated space pages purpose address Outside = Err (AddressError purpose address)

-- where an address leads that has to be a multiple of `unit`, in a guest of so many pages
abbrev pub place : AddressSpace → ℕ → ℕ → Use → ℕ → Result Place Exception
place space pages unit purpose address =
    if address % unit == 0
    then translated space pages purpose address (segment space.user address)
    else Err (AddressError purpose address)

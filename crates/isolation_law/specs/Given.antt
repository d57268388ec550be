-- What the guest's own TLB and direct segment give.
use Rattle.std.specs.Prelude.{ℕ, ◌*◌, ◌/◌, ◌==◌, ◌||◌, Bool, false, List, Option, Some, None, Result, Ok, Err, IsTrue}
use Rattle.base_words.specs.declared.exception.Exception.{Exception}
use Rattle.base_words.specs.declared.exception.Use.{Use}
use Rattle.base_words.specs.declared.place.Place.{Place}
use Rattle.base_words.specs.declared.place.Place.TheVariants.{Memory, Device}
use Rattle.base_words.specs.declared.tlb.Entry.{Entry}
use Rattle.base_words.specs.Place.{place}

-- what the guest's own TLB and direct segment say of a page number in an address space, in kernel mode: the page, if it is one
-- of memory and the access is granted
abbrev pub page_of : Result Place Exception → Option ℕ
page_of (Err x) = None
page_of (Ok (Memory offset)) = Some (offset / 4096)
page_of (Ok (Device offset)) = None

abbrev pub given : ℕ → List Entry → ℕ → Use → ℕ → Option ℕ
given pages tlb asid purpose number =
    page_of (place (record { user = false; asid = asid; entries = tlb }) pages 4096 purpose (number * 4096))

-- the address spaces that a half or an entry is of
abbrev pub IsIn : Bool → ℕ → ℕ → Type 0
IsIn global own asid = IsTrue (global || (own == asid))

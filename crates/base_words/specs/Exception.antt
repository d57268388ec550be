-- Exceptions (MIPS R4000 User's Manual, chapter 5, "CPU Exception Processing"): what coprocessor 0 holds after one, and
-- where the processor goes on.
use Rattle.std.specs.Prelude.{ℕ, Bool, true, false, not, ◌&&◌, if◌then◌else◌, Option, Some, None, unwrap_or}
use Rattle.base_words.specs.declared.exception.Use.{Use}
use Rattle.base_words.specs.declared.exception.Use.TheVariants.{Fetch, Load, Store}
use Rattle.base_words.specs.declared.exception.Exception.{Exception}
use Rattle.base_words.specs.declared.exception.Exception.TheVariants.{Interrupt, TlbModified, TlbRefill, TlbInvalid, AddressError, BusError, SystemCall, Breakpoint, ReservedInstruction, CoprocessorUnusable, Overflow, Trap}
use Rattle.base_words.specs.declared.coprocessor.Cp0Registers.{Cp0Registers}
use Rattle.base_words.specs.Arithmetic.{difference}
use Rattle.base_words.specs.Bits.{bits}
use Rattle.base_words.specs.Tlb.{page_pair}

-- what an exception tells: ExcCode, CE, the address for BadVAddr, the pair of pages for Context and EntryHi, and whether
-- no entry of the TLB matched
pub record Details : Type 0 where
  pub code : ℕ
  pub unit : ℕ
  pub address : Option ℕ
  pub pair : Option ℕ
  pub refill : Bool

abbrev pub plain : ℕ → Details
plain code = record { code = code; unit = 0; address = None; pair = None; refill = false }

abbrev pub at_address : ℕ → ℕ → Details
at_address code address = record { code = code; unit = 0; address = Some address; pair = None; refill = false }

abbrev pub of_tlb : ℕ → ℕ → Bool → Details
of_tlb code address refill = record { code = code; unit = 0; address = Some address; pair = Some (page_pair address); refill = refill }

-- one of two codes, for a store and for the rest; and for a fetch and the rest
abbrev pub store_or : ℕ → ℕ → Use → ℕ
store_or store other Fetch = other
store_or store other Load = other
store_or store other Store = store

abbrev pub fetch_or : ℕ → ℕ → Use → ℕ
fetch_or fetch other Fetch = fetch
fetch_or fetch other Load = other
fetch_or fetch other Store = other

abbrev pub details : Exception → Details
details Interrupt = plain 0
details (TlbModified address) = of_tlb 1 address false
details (TlbRefill purpose address) = of_tlb (store_or 3 2 purpose) address true
details (TlbInvalid purpose address) = of_tlb (store_or 3 2 purpose) address false
details (AddressError purpose address) = at_address (store_or 5 4 purpose) address
details (BusError purpose) = plain (fetch_or 6 7 purpose)
details SystemCall = plain 8
details Breakpoint = plain 9
details ReservedInstruction = plain 10
details (CoprocessorUnusable unit) = record (plain 11) { unit = bits 1 0 unit }
details Overflow = plain 12
details Trap = plain 13

-- EPC: the instruction, or the branch in whose delay slot it is
abbrev pub restart : ℕ → Bool → ℕ
restart pc slot = if slot then difference pc 4 else pc

-- EPC and BD stay where an exception is being handled already
abbrev pub with_restart : ℕ → Bool → Cp0Registers → Cp0Registers
with_restart pc slot c =
    if c.status.exception then c
    else record c { epc = restart pc slot; cause = record c.cause { slot = slot } }

abbrev pub with_details : Details → Cp0Registers → Cp0Registers
with_details d c = record c {
  cause = record c.cause { unit = d.unit; code = d.code };
  bad_address = unwrap_or d.address c.bad_address;
  context = record c.context { pair = unwrap_or d.pair c.context.pair };
  entry_hi = record c.entry_hi { pair = unwrap_or d.pair c.entry_hi.pair };
}

-- EXL
abbrev pub handling : Bool → Cp0Registers → Cp0Registers
handling on c = record c { status = record c.status { exception = on } }

-- coprocessor 0 after an exception at an instruction, which may be in a delay slot
abbrev pub entered : Exception → ℕ → Bool → Cp0Registers → Cp0Registers
entered x pc slot c = handling true (with_details (details x) (with_restart pc slot c))

-- where the processor goes on: a refill has a place of its own, where no exception is being handled
abbrev pub vector : Exception → Cp0Registers → ℕ
vector x c = if (details x).refill && not c.status.exception then 0xC000_0000 else 0xC000_0180

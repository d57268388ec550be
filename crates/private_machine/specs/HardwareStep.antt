-- One step of a processor through its own TLB: the first reason for which it traps to the monitor, or what it reaches (MIPS R4000 User's Manual, chapter 4, "TLB Instructions", and appendix A; the monitor fills this TLB).
use Rattle.std.specs.Prelude.{ℕ, ◌%◌, if◌then◌else◌, List, Option, Some, None, Result, Ok, Err}
use Rattle.base_words.specs.declared.regs.Regs.{Regs}
use Rattle.base_words.specs.declared.exception.Exception.{Exception}
use Rattle.base_words.specs.declared.trap.TrapCause.{TrapCause}
use Rattle.base_words.specs.declared.trap.TrapCause.TheVariants as causes
use Rattle.base_words.specs.Instruction.{Effect, effect}
use Rattle.base_words.specs.OpcodeMap.{decoded}
use Rattle.private_machine.specs.Backing.{Page, bytes_through, page_at}
use Rattle.private_machine.specs.Links.{word_offset}
use Rattle.private_machine.specs.OwnStep.{is_privileged}
use Rattle.base_words.specs.Memory.{word_at}
use Rattle.private_machine.specs.RegisterPage.{redirected, opened}
use Rattle.private_machine.specs.Reaching.{Wanted, Lack, NoRange, NoHalf, DeadFrame, NoStore, Sight, Reached, fetch_at, wanted, reached, is_open_to}

-- why a processor traps, with the access that it wanted; the words are the instruction's, and what is dead is what was reached
pub data Trap : Type 0 where
  Line : Trap
  FetchMiss : Wanted → Trap
  DataMiss : (word : ℕ) → Wanted → Trap
  ReadOnly : (word : ℕ) → Wanted → Trap
  Address : (word : Option ℕ) → Trap
  Privileged : (word : ℕ) → Trap
  Raised : Exception → Trap
  Dead : (at : Reached) → Wanted → Trap

-- what a processor does by itself: what its fetch reached, what the instruction does, and what its data access reached
pub record Done : Type 0 where
  pub fetched : Reached
  pub does : Effect
  pub data_at : Option Reached

-- the trap of a fetch, which never wants to store, and of a data access
abbrev pub fetch_trap : Wanted → Lack → Trap
fetch_trap w NoRange = Address None
fetch_trap w NoHalf = FetchMiss w
fetch_trap w (DeadFrame at) = Dead at w
fetch_trap w NoStore = FetchMiss w

abbrev pub data_trap : ℕ → Wanted → Lack → Trap
data_trap word w NoRange = Address (Some word)
data_trap word w NoHalf = DataMiss word w
data_trap word w (DeadFrame at) = Dead at w
data_trap word w NoStore = ReadOnly word w

-- the word around an address, where it is reached
abbrev pub word_through : List Page → Reached → ℕ → ℕ
word_through pages at address = word_at (bytes_through (page_at pages at.page) at.frame) (word_offset (address % 4096))

abbrev pub with_data : ℕ → Wanted → Reached → Effect → Result Reached Lack → Result Done Trap
with_data word w fetched does (Err lack) = Err (data_trap word w lack)
with_data word w fetched does (Ok at) = Ok (record { fetched = fetched; does = does; data_at = Some at })

abbrev pub accesses : Sight → ℕ → Reached → Effect → Option Wanted → Result Done Trap
accesses x word fetched does None = Ok (record { fetched = fetched; does = does; data_at = None })
accesses x word fetched does (Some w) = with_data word w fetched does (reached x w)

abbrev pub asking : Sight → ℕ → Reached → Result Effect Exception → Result Done Trap
asking x word fetched (Err exception) = Err (Raised exception)
asking x word fetched (Ok does) = accesses x word fetched does (wanted does.request)

-- where the register page is open, what an instruction asks there is asked of its register
abbrev pub asks_of : Sight → Effect → Effect
asks_of x does = record does { request = redirected (is_open_to x) does.request }

abbrev pub executes : Sight → ℕ → Reached → Result Effect Exception → Result Done Trap
executes x word fetched does = asking x word fetched (opened (is_open_to x) does)

abbrev pub decodes : Sight → Regs → Reached → ℕ → Result Done Trap
decodes x regs fetched word =
    if is_privileged word then Err (Privileged word) else executes x word fetched (effect (decoded word) regs)

abbrev pub fetches : Sight → List Page → Regs → Result Reached Lack → Result Done Trap
fetches x pages regs (Err lack) = Err (fetch_trap (fetch_at regs.pc) lack)
fetches x pages regs (Ok at) = decodes x regs at (word_through pages at regs.pc)

-- the step: the first of these that traps, or what it does
abbrev pub hardware_step : Sight → List Page → Regs → Result Done Trap
hardware_step x pages regs = if x.line then Err Line else fetches x pages regs (reached x (fetch_at regs.pc))

-- what the monitor is told of a trap; of a dead frame, its number
abbrev pub cause_of : Trap → TrapCause
cause_of Line = causes.Line
cause_of (FetchMiss w) = causes.FetchMiss
cause_of (DataMiss word w) = causes.DataMiss word
cause_of (ReadOnly word w) = causes.ReadOnly word
cause_of (Address word) = causes.Address word
cause_of (Privileged word) = causes.Privileged word
cause_of (Raised x) = causes.Raised x
cause_of (Dead at w) = causes.Dead (record { 0 = at.frame })

-- Coprocessor 0 (MIPS R4000 User's Manual, chapters 4 and 5, "System Control Coprocessor" and "Exception Processing
-- Registers"): which bits each register reads, and which a write keeps.
use Rattle.std.specs.Prelude.{ℕ, ◌+◌, ◌-◌, ◌*◌, ◌^◌, ◌==◌, nat_le, if◌then◌else◌, Bool, true, false, not, ◌&&◌, List, [], ◌∷◌, Option, Some, None, slice_index_or, bit_and}
use Rattle.base_words.specs.declared.coprocessor.Cp0Register.{Cp0Register}
use Rattle.base_words.specs.declared.coprocessor.Cp0Register.TheVariants.{Index, Random, EntryLo0, EntryLo1, Context, PageMask, Wired, BadVAddr, Count, EntryHi, Compare, Status, Cause, Epc, PrId, Unused}
use Rattle.base_words.specs.declared.coprocessor.Mode.{Mode}
use Rattle.base_words.specs.declared.coprocessor.Mode.TheVariants.{Kernel, User}
use Rattle.base_words.specs.declared.coprocessor.Index.{Index as IndexFields}
use Rattle.base_words.specs.declared.coprocessor.EntryHi.{EntryHi as EntryHiFields}
use Rattle.base_words.specs.declared.coprocessor.Status.{Status as StatusFields}
use Rattle.base_words.specs.declared.coprocessor.Cause.{Cause as CauseFields}
use Rattle.base_words.specs.declared.coprocessor.Pending.{Pending}
use Rattle.base_words.specs.declared.coprocessor.Cp0Registers.{Cp0Registers}
use Rattle.base_words.specs.Fields.{sum}
use Rattle.base_words.specs.Bits.{bits, flag, bit}
use Rattle.base_words.specs.Tlb.{page_pair, address_space}

-- the registers by their numbers, eight to a line
abbrev pub register_map : List Cp0Register
register_map =
    Index ∷ Random ∷ EntryLo0 ∷ EntryLo1 ∷ Context ∷ PageMask ∷ Wired ∷ Unused
    ∷ BadVAddr ∷ Count ∷ EntryHi ∷ Compare ∷ Status ∷ Cause ∷ Epc ∷ PrId ∷ []

abbrev pub register_at : ℕ → Cp0Register
register_at number = slice_index_or register_map number Unused

-- the last entry of the TLB, from which Random counts down
abbrev pub last_entry : ℕ
last_entry = 47

-- at the start all are 0, but Random
abbrev pub nothing_pending : Pending
nothing_pending = record { software = 0; input = false; packet = false; vcpu = false; timer = false }

abbrev pub at_reset : Cp0Registers
at_reset = record {
  index = record { failed = false; entry = 0 };
  random = last_entry;
  entry_lo0 = 0;
  entry_lo1 = 0;
  context = record { table = 0; pair = 0 };
  wired = 0;
  bad_address = 0;
  count = 0;
  entry_hi = record { pair = 0; asid = 0 };
  compare = 0;
  status = record { enabled = false; exception = false; mode = Kernel; mask = 0 };
  cause = record { slot = false; unit = 0; pending = nothing_pending; code = 0 };
  epc = 0;
}

-- KSU
abbrev pub mode_code : Mode → ℕ
mode_code Kernel = 0
mode_code User = 2

abbrev pub mode_of : ℕ → Mode
mode_of code = if code == 0 then Kernel else User

-- IP, eight bits; IP5 and IP6 are never on
abbrev pub pending_bits : Pending → ℕ
pending_bits p = bit p.timer * 2 ^ 7 + bit p.vcpu * 2 ^ 4 + bit p.packet * 2 ^ 3 + bit p.input * 2 ^ 2 + p.software

-- EntryHi, Status and Cause as words
abbrev pub entry_hi_word : EntryHiFields → ℕ
entry_hi_word e = e.pair * 2 ^ 13 + e.asid

abbrev pub status_word : StatusFields → ℕ
status_word s = s.mask * 2 ^ 8 + mode_code s.mode * 2 ^ 3 + bit s.exception * 2 + bit s.enabled

abbrev pub cause_word : CauseFields → ℕ
cause_word c = bit c.slot * 2 ^ 31 + c.unit * 2 ^ 28 + pending_bits c.pending * 2 ^ 8 + c.code * 2 ^ 2

-- what a register reads
abbrev pub reads : Cp0Registers → Cp0Register → ℕ
reads c Index = bit c.index.failed * 2 ^ 31 + c.index.entry
reads c Random = c.random
reads c EntryLo0 = c.entry_lo0
reads c EntryLo1 = c.entry_lo1
reads c Context = c.context.table * 2 ^ 23 + c.context.pair * 2 ^ 4
reads c PageMask = 0
reads c Wired = c.wired
reads c BadVAddr = c.bad_address
reads c Count = c.count
reads c EntryHi = entry_hi_word c.entry_hi
reads c Compare = c.compare
reads c Status = status_word c.status
reads c Cause = cause_word c.cause
reads c Epc = c.epc
reads c PrId = 0x400
reads c Unused = 0

-- the timer's interrupt, and those that software sets
abbrev pub with_timer : Bool → CauseFields → CauseFields
with_timer on cause = record cause { pending = record cause.pending { timer = on } }

abbrev pub with_software : ℕ → CauseFields → CauseFields
with_software number cause = record cause { pending = record cause.pending { software = number } }

abbrev pub status_of : ℕ → StatusFields
status_of word = record { enabled = flag 0 word; exception = flag 1 word; mode = mode_of (bits 4 3 word); mask = bits 15 8 word }

-- the registers after a word is written to one of them
abbrev pub writes : Cp0Registers → Cp0Register → ℕ → Cp0Registers
writes c Index word = record c { index = record { failed = false; entry = bits 5 0 word } }
writes c Random word = c
writes c EntryLo0 word = record c { entry_lo0 = bits 29 0 word }
writes c EntryLo1 word = record c { entry_lo1 = bits 29 0 word }
writes c Context word = record c { context = record c.context { table = bits 31 23 word } }
writes c PageMask word = c
writes c Wired word = record c { wired = bits 5 0 word; random = last_entry }
writes c BadVAddr word = c
writes c Count word = record c { count = word }
writes c EntryHi word = record c { entry_hi = record { pair = page_pair word; asid = address_space word } }
writes c Compare word = record c { compare = word; cause = with_timer false c.cause }
writes c Status word = record c { status = status_of word }
writes c Cause word = record c { cause = with_software (bits 9 8 word) c.cause }
writes c Epc word = record c { epc = word }
writes c PrId word = c
writes c Unused word = c

-- TLBP leaves the entry that it found, or that it found none
abbrev pub found : Option ℕ → IndexFields
found None = record { failed = true; entry = 0 }
found (Some entry) = record { failed = false; entry = bits 5 0 entry }

abbrev pub probe_answered : Cp0Registers → Option ℕ → Cp0Registers
probe_answered c answer = record c { index = found answer }

-- user code runs, where no exception is being handled
abbrev pub in_user_mode : StatusFields → Bool
in_user_mode status = not status.exception && (mode_code status.mode == 2)

-- an interrupt is enabled and pending
abbrev pub interrupts : Cp0Registers → Bool
interrupts c =
    c.status.enabled && not c.status.exception && not (bit_and c.status.mask (pending_bits c.cause.pending) == 0)

-- a line of IP2 to IP4 is on or off; the others aren't lines
abbrev pub with_line : ℕ → Bool → Pending → Pending
with_line number on p =
    if number == 2 then record p { input = on }
    else if number == 3 then record p { packet = on }
    else if number == 4 then record p { vcpu = on }
    else p

abbrev pub line_set : Cp0Registers → ℕ → Bool → Cp0Registers
line_set c number on = record c { cause = record c.cause { pending = with_line number on c.cause.pending } }

-- Random after a step: it counts down to Wired, and then begins again
abbrev pub next_random : ℕ → ℕ → ℕ
next_random random wired = if nat_le random wired then last_entry else random - 1

-- Count after a step; where it comes to Compare, the timer interrupts
abbrev pub ticked : Cp0Registers → Cp0Registers
ticked c = record c {
  random = next_random c.random c.wired;
  count = sum c.count 1;
  cause = if sum c.count 1 == c.compare then with_timer true c.cause else c.cause;
}

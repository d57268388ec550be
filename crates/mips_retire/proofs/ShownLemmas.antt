-- What a virtual processor shows of halts and lines stays over all that it does by itself.
use Rattle.std.proofs.Common.{◌≡◌, ℕ, Bool, true, false, if◌then◌else◌, ap, refl, is_some}
use Rattle.base_words.specs.declared.regs.Regs.{Regs}
use Rattle.base_words.specs.declared.exception.Exception.{Exception}
use Rattle.base_words.specs.declared.instr.Cp0Op.{Cp0Op}
use Rattle.base_words.specs.declared.instr.Cp0Op.TheVariants.{TlbRead, TlbWriteIndexed, TlbWriteRandom, TlbProbe, ExceptionReturn}
use Rattle.base_words.specs.declared.coprocessor.Cp0Registers.{Cp0Registers}
use Rattle.base_words.specs.declared.coprocessor.Cause.{Cause}
use Rattle.base_words.specs.declared.coprocessor.Pending.{Pending}
use Rattle.base_words.specs.declared.coprocessor.Cp0Register.{Cp0Register}
use Rattle.base_words.specs.declared.coprocessor.Cp0Register.TheVariants.{Index, Random, EntryLo0, EntryLo1, Context, PageMask, Wired, BadVAddr, Count, EntryHi, Compare, Status, Cause as CauseRegister, Epc, PrId, Unused}
use Rattle.base_words.specs.Coprocessor.{writes, with_timer}
use Rattle.base_words.specs.Exception.{restart}
use Rattle.private_machine.specs.declared.vcpu.Vcpu.{Vcpu}
use Rattle.private_machine.specs.Vcpu.{with_registers, with_cp0, raising, ticking, system_done}
use Rattle.private_machine.specs.Showing.{Shown, shown_by}

-- of the lines, IP4 and IP3 are shown
abbrev shows : Bool → Pending → Shown
shows halted p = record { halted = halted; called = p.vcpu; packet = p.packet }

pub shown_by-writes : (c : Vcpu) (r : Cp0Register) (word : ℕ) → shown_by (with_cp0 (writes c.cp0 r word) c) ≡ shown_by c
shown_by-writes c Index word = refl
shown_by-writes c Random word = refl
shown_by-writes c EntryLo0 word = refl
shown_by-writes c EntryLo1 word = refl
shown_by-writes c Context word = refl
shown_by-writes c PageMask word = refl
shown_by-writes c Wired word = refl
shown_by-writes c BadVAddr word = refl
shown_by-writes c Count word = refl
shown_by-writes c EntryHi word = refl
shown_by-writes c Compare word = refl
shown_by-writes c Status word = refl
shown_by-writes c CauseRegister word = refl
shown_by-writes c Epc word = refl
shown_by-writes c PrId word = refl
shown_by-writes c Unused word = refl

-- an exception leaves the lines
restart_pending : (b : Bool) (c : Cp0Registers) (pc : ℕ) (slot : Bool)
    → (if b then c else record c { epc = restart pc slot; cause = record c.cause { slot = slot } }).cause.pending ≡ c.cause.pending
restart_pending true c pc slot = refl
restart_pending false c pc slot = refl

pub shown_by-raising : (c : Vcpu) (x : Exception) → shown_by (raising x c) ≡ shown_by c
shown_by-raising c x = ap (shows c.halted) (restart_pending c.cp0.status.exception c.cp0 c.registers.pc (is_some c.registers.slot))

-- a tick changes the timer's alone
timer_shows : (b halted : Bool) (c : Cause) → shows halted (if b then with_timer true c else c).pending ≡ shows halted c.pending
timer_shows true halted c = refl
timer_shows false halted c = refl

pub shown_by-ticking : (c : Vcpu) → shown_by (ticking c) ≡ shown_by c
shown_by-ticking c = timer_shows _ c.halted c.cp0.cause

pub shown_by-system_done : (op : Cp0Op) (regs : Regs) (c : Vcpu) → shown_by (system_done op (with_registers regs c)) ≡ shown_by c
shown_by-system_done TlbRead regs c = refl
shown_by-system_done TlbWriteIndexed regs c = refl
shown_by-system_done TlbWriteRandom regs c = refl
shown_by-system_done TlbProbe regs c = refl
shown_by-system_done ExceptionReturn regs c = refl

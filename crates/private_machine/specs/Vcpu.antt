-- A virtual processor alone (MIPS R4000 User's Manual, chapters 2, 4 and 5): what it holds, how it goes on after an exception
-- and after ERET, what the instructions of the TLB do, and the tick at the end of a step.
use Rattle.std.specs.Prelude.{ℕ, Bool, true, false, Option, None, is_some, replicate}
use Rattle.base_words.specs.declared.regs.Regs.{Regs}
use Rattle.base_words.specs.declared.exception.Exception.{Exception}
use Rattle.base_words.specs.declared.coprocessor.Cp0Registers.{Cp0Registers}
use Rattle.base_words.specs.declared.coprocessor.Cp0Register.TheVariants as cp0
use Rattle.base_words.specs.declared.instr.Cp0Op.{Cp0Op}
use Rattle.base_words.specs.declared.instr.Cp0Op.TheVariants.{TlbRead, TlbWriteIndexed, TlbWriteRandom, TlbProbe, ExceptionReturn}
use Rattle.base_words.specs.declared.tlb.Entry.{Entry}
use Rattle.base_words.specs.Counts.{counted}
use Rattle.base_words.specs.Coprocessor.{at_reset, writes, entry_hi_word, probe_answered, in_user_mode, line_set, ticked}
use Rattle.base_words.specs.Exception.{entered, vector, handling}
use Rattle.base_words.specs.Tlb.{tlb_at_reset, probed, entry_read, entry_written}
use Rattle.base_words.specs.Place.{AddressSpace}
use Rattle.private_machine.specs.declared.vcpu.Vcpu.{Vcpu}

-- all registers 0, and the program counter at an entry
abbrev pub reset : ℕ → Regs
reset entry = record { general = replicate 32 0; hi = 0; lo = 0; pc = entry; slot = None }

-- a virtual processor at the start
abbrev pub started : ℕ → Vcpu
started entry = record { registers = reset entry; cp0 = at_reset; tlb = tlb_at_reset; link = None; halted = false; steps = 0 }

-- one past the last has halted
abbrev pub no_vcpu : Vcpu
no_vcpu = record { registers = reset 0; cp0 = at_reset; tlb = tlb_at_reset; link = None; halted = true; steps = 0 }

-- what decides where its addresses lead
abbrev pub space_of : Vcpu → AddressSpace
space_of c = record { user = in_user_mode c.cp0.status; asid = c.cp0.entry_hi.asid; entries = c.tlb }

abbrev pub with_registers : Regs → Vcpu → Vcpu
with_registers regs c = record c { registers = regs }

abbrev pub with_cp0 : Cp0Registers → Vcpu → Vcpu
with_cp0 new c = record c { cp0 = new }

abbrev pub with_link : Option ℕ → Vcpu → Vcpu
with_link line c = record c { link = line }

-- it goes on at an address, and not in a delay slot
abbrev pub resumed : ℕ → Regs → Regs
resumed pc regs = record regs { pc = pc; slot = None }

-- after an exception; the link stays
abbrev pub raising : Exception → Vcpu → Vcpu
raising x c = record c {
  registers = resumed (vector x c.cp0) c.registers;
  cp0 = entered x c.registers.pc (is_some c.registers.slot) c.cp0;
}

-- after ERET
abbrev pub returning : Vcpu → Vcpu
returning c = record c { registers = resumed c.cp0.epc c.registers; cp0 = handling false c.cp0; link = None }

-- a step is over: Random and the timer move on, and the step is counted
abbrev pub ticking : Vcpu → Vcpu
ticking c = record c { cp0 = ticked c.cp0; steps = counted c.steps }

-- the entry that EntryHi, EntryLo0 and EntryLo1 hold, and these registers after an entry was read into them
abbrev pub held_entry : Cp0Registers → Entry
held_entry c = record { hi = entry_hi_word c.entry_hi; lo0 = c.entry_lo0; lo1 = c.entry_lo1 }

abbrev pub holding : Entry → Cp0Registers → Cp0Registers
holding e c = writes (writes (writes c cp0.EntryHi e.hi) cp0.EntryLo0 e.lo0) cp0.EntryLo1 e.lo1

-- after an instruction of the TLB, or ERET
abbrev pub system_done : Cp0Op → Vcpu → Vcpu
system_done TlbRead c = with_cp0 (holding (entry_read c.tlb c.cp0.index.entry) c.cp0) c
system_done TlbWriteIndexed c = record c { tlb = entry_written c.tlb c.cp0.index.entry (held_entry c.cp0) }
system_done TlbWriteRandom c = record c { tlb = entry_written c.tlb c.cp0.random (held_entry c.cp0) }
system_done TlbProbe c = with_cp0 (probe_answered c.cp0 (probed c.tlb (entry_hi_word c.cp0.entry_hi))) c
system_done ExceptionReturn c = returning c

-- a line of its interrupts goes on or off: IP2 for input, IP3 for packets, IP4 for other virtual processors
abbrev pub with_line_on : ℕ → Bool → Vcpu → Vcpu
with_line_on number on c = with_cp0 (line_set c.cp0 number on) c

-- it halts
abbrev pub halting : Vcpu → Vcpu
halting c = record c { halted = true }

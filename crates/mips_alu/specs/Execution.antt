-- What an instruction leaves in the registers that it is given, by its answer.
use Rattle.std.specs.Prelude.{◌≡◌, ℕ, Option, Some, None, Result, Ok, Err}
use Rattle.base_words.specs.declared.regs.Regs.{Regs}
use Rattle.base_words.specs.declared.exception.Exception.{Exception}
use Rattle.base_words.specs.declared.exception.Exception.TheVariants.{ReservedInstruction}
use Rattle.base_words.specs.declared.instr.Cp0Op.{Cp0Op}
use Rattle.base_words.specs.declared.instr.Cp0Op.TheVariants.{TlbRead, TlbWriteIndexed, TlbWriteRandom, TlbProbe, ExceptionReturn}
use Rattle.base_words.specs.declared.effect.Request.{Request}
use Rattle.base_words.specs.declared.effect.Request.TheVariants as asks
use Rattle.base_words.specs.Instruction.{Effect, advanced}

-- the registers of an instruction of coprocessor 0 that passes on: ERET leads on by itself
abbrev pub passed_system : Cp0Op → Regs → Regs
passed_system TlbRead regs = advanced regs
passed_system TlbWriteIndexed regs = advanced regs
passed_system TlbWriteRandom regs = advanced regs
passed_system TlbProbe regs = advanced regs
passed_system ExceptionReturn regs = regs

-- the registers once the request is answered: the instruction is passed, but for what the answer puts into a register
abbrev pub passed : Request → Regs → Regs
passed asks.Nothing regs = regs
passed (asks.Load kind address target) regs = advanced regs
passed (asks.Store kind address value) regs = advanced regs
passed (asks.LoadLinked address target) regs = advanced regs
passed (asks.StoreConditional address value target) regs = advanced regs
passed (asks.ReadCp0 number target) regs = advanced regs
passed (asks.WriteCp0 number value) regs = advanced regs
passed (asks.System op) regs = passed_system op regs

-- an instruction that asks something leaves the registers until the answer is there
abbrev pub Waits : Request → Regs → Regs → Type 0
Waits asks.Nothing old new = Unit {0}
Waits (asks.Load kind address target) old new = new ≡ old
Waits (asks.Store kind address value) old new = new ≡ old
Waits (asks.LoadLinked address target) old new = new ≡ old
Waits (asks.StoreConditional address value target) old new = new ≡ old
Waits (asks.ReadCp0 number target) old new = new ≡ old
Waits (asks.WriteCp0 number value) old new = new ≡ old
Waits (asks.System op) old new = new ≡ old

-- the registers are the effect's, or wait for the answer, or stay where it raises an exception
abbrev pub Executes : Result Effect Exception → Regs → Regs → Result Request Exception → Type 0
Executes does old new (Ok request) = (does ≡ Ok (record { registers = passed request new; request = request })) × Waits request old new
Executes does old new (Err exception) = (does ≡ Err exception) × (new ≡ old)

-- a branch or a jump is reserved in a delay slot
abbrev pub outside_slot : Option ℕ → Result (Unit {0}) Exception
outside_slot None = Ok tt
outside_slot (Some target) = Err ReservedInstruction

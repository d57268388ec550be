-- What an instruction does (MIPS R4000 User's Manual, appendix A): the registers afterwards and what it asks of
-- memory or of coprocessor 0, or the exception that it raises. It never looks at either, nor at the mode.
use Rattle.std.specs.Prelude.{ℕ, ◌+◌, ◌*◌, ◌/◌, ◌%◌, ◌^◌, ◌==◌, Bool, true, false, if◌then◌else◌, Option, Some, None, Result, Ok, Err, unwrap_or, slice_index, slice_set}
use Rattle.base_words.specs.declared.regs.Regs.{Regs}
use Rattle.base_words.specs.declared.exception.Exception.{Exception}
use Rattle.base_words.specs.declared.exception.Exception.TheVariants as raised
use Rattle.base_words.specs.declared.effect.HiLo.{HiLo}
use Rattle.base_words.specs.declared.effect.Request.{Request}
use Rattle.base_words.specs.declared.effect.Request.TheVariants as asks
use Rattle.base_words.specs.declared.instr.AluOp.{AluOp}
use Rattle.base_words.specs.declared.instr.AluOp.TheVariants.{Add, AddUnsigned, Subtract, SubtractUnsigned, And, Or, Xor, Nor, SetLess, SetLessUnsigned}
use Rattle.base_words.specs.declared.instr.Cp0Op.{Cp0Op}
use Rattle.base_words.specs.declared.instr.Cp0Op.TheVariants.{TlbRead, TlbWriteIndexed, TlbWriteRandom, TlbProbe, ExceptionReturn}
use Rattle.base_words.specs.declared.instr.Half.{Half}
use Rattle.base_words.specs.declared.instr.Half.TheVariants.{Hi, Lo}
use Rattle.base_words.specs.declared.instr.Untaken.{Untaken}
use Rattle.base_words.specs.declared.instr.Untaken.TheVariants.{Slot, PastSlot}
use Rattle.base_words.specs.declared.instr.Instr.{Instr}
use Rattle.base_words.specs.declared.instr.Instr.TheVariants.{Shift, ShiftVariable, JumpRegister, JumpAndLinkRegister, SystemCall, Break, Sync, MoveFrom, MoveTo, MulDiv, Alu, Trap, Branch, BranchZero, BranchZeroAndLink, TrapImmediate, Jump, JumpAndLink, AluImmediate, LoadUpper, Load, Store, LoadLinked, StoreConditional, MoveFromCp0, MoveToCp0, Cp0, Coprocessor, Reserved}
use Rattle.base_words.specs.Fields.{sign_extended, sum}
use Rattle.base_words.specs.Arithmetic.{alu, shift, mul_div, holds}

-- what an instruction leaves in the registers, and what it asks of memory or of coprocessor 0
pub record Effect : Type 0 where
  pub registers : Regs
  pub request : Request

-- a register's value; register 0 reads 0
abbrev pub register : Regs → ℕ → ℕ
register regs number = if number == 0 then 0 else slice_index regs.general number

-- the registers with another value in one of them; a write to register 0 is dropped
abbrev pub with_register : Regs → ℕ → ℕ → Regs
with_register regs number value =
    if number == 0 then regs else record regs { general = slice_set regs.general number value }

abbrev pub with_hi_lo : Regs → HiLo → Regs
with_hi_lo regs product = record regs { hi = product.hi; lo = product.lo }

-- past this instruction: to the next one, or from a delay slot to where it leads
abbrev pub advanced : Regs → Regs
advanced regs = record regs { pc = unwrap_or regs.slot (sum regs.pc 4); slot = None }

-- the instruction is done, and the next one follows
abbrev pub done : Regs → Request → Result Effect Exception
done regs request = Ok (record { registers = advanced regs; request = request })

-- the second operand that an immediate is: with its sign for arithmetic, with zeros for logic
abbrev pub operand : AluOp → ℕ → ℕ
operand Add half = sign_extended half
operand AddUnsigned half = sign_extended half
operand Subtract half = sign_extended half
operand SubtractUnsigned half = sign_extended half
operand And half = half
operand Or half = half
operand Xor half = half
operand Nor half = half
operand SetLess half = sign_extended half
operand SetLessUnsigned half = sign_extended half

-- a result goes into a register
abbrev pub computed : Option ℕ → ℕ → Regs → Result Effect Exception
computed None number regs = Err raised.Overflow
computed (Some value) number regs = done (with_register regs number value) asks.Nothing

-- a trap is raised where its condition holds
abbrev pub trapped : Bool → Regs → Result Effect Exception
trapped true regs = Err raised.Trap
trapped false regs = done regs asks.Nothing

-- the instruction in the delay slot follows, and then the target
abbrev pub to_slot : Regs → ℕ → Regs
to_slot regs target = record regs { pc = sum regs.pc 4; slot = Some target }

-- a branch: where it isn't taken its delay slot follows, or is passed over
abbrev pub branched : Bool → Untaken → ℕ → Regs → Regs
branched true untaken offset regs = to_slot regs (sum (sum regs.pc 4) (4 * sign_extended offset))
branched false Slot offset regs = to_slot regs (sum regs.pc 8)
branched false PastSlot offset regs = record regs { pc = sum regs.pc 8; slot = None }

-- a branch or a jump; in a delay slot it is reserved
abbrev pub leads : Option ℕ → Regs → Result Effect Exception
leads None regs = Ok (record { registers = regs; request = asks.Nothing })
leads (Some target) regs = Err raised.ReservedInstruction

-- the address after the delay slot goes into a register
abbrev pub linked : Regs → ℕ → Regs
linked regs number = with_register regs number (sum regs.pc 8)

-- a jump's target, in the region of the delay slot
abbrev pub jump_target : Regs → ℕ → ℕ
jump_target regs index = sum regs.pc 4 / 2 ^ 28 * 2 ^ 28 + index * 4

-- the address of a load or a store
abbrev pub address : Regs → ℕ → ℕ → ℕ
address regs base offset = sum (register regs base) (sign_extended offset)

-- the return from an exception leads on by itself; in a delay slot it is reserved
abbrev pub returns : Option ℕ → Regs → Result Effect Exception
returns None regs = Ok (record { registers = regs; request = asks.System ExceptionReturn })
returns (Some target) regs = Err raised.ReservedInstruction

-- an instruction of the TLB is followed by the next one
abbrev pub system : Cp0Op → Regs → Result Effect Exception
system TlbRead regs = done regs (asks.System TlbRead)
system TlbWriteIndexed regs = done regs (asks.System TlbWriteIndexed)
system TlbWriteRandom regs = done regs (asks.System TlbWriteRandom)
system TlbProbe regs = done regs (asks.System TlbProbe)
system ExceptionReturn regs = returns regs.slot regs

abbrev pub half_of_product : Half → Regs → ℕ
half_of_product Hi regs = regs.hi
half_of_product Lo regs = regs.lo

abbrev pub with_half : Half → Regs → ℕ → Regs
with_half Hi regs value = record regs { hi = value }
with_half Lo regs value = record regs { lo = value }

abbrev pub effect : Instr → Regs → Result Effect Exception
effect (Shift op rt rd amount) regs = computed (Some (shift op (register regs rt) amount)) rd regs
effect (ShiftVariable op rs rt rd) regs = computed (Some (shift op (register regs rt) (register regs rs % 32))) rd regs
effect (JumpRegister rs) regs = leads regs.slot (to_slot regs (register regs rs))
effect (JumpAndLinkRegister rs rd) regs = leads regs.slot (to_slot (linked regs rd) (register regs rs))
effect (SystemCall code) regs = Err raised.SystemCall
effect (Break code) regs = Err raised.Breakpoint
effect Sync regs = done regs asks.Nothing
effect (MoveFrom half rd) regs = computed (Some (half_of_product half regs)) rd regs
effect (MoveTo half rs) regs = done (with_half half regs (register regs rs)) asks.Nothing
effect (MulDiv op rs rt) regs = done (with_hi_lo regs (mul_div op (register regs rs) (register regs rt))) asks.Nothing
effect (Alu op rs rt rd) regs = computed (alu op (register regs rs) (register regs rt)) rd regs
effect (Trap cond rs rt code) regs = trapped (holds cond (register regs rs) (register regs rt)) regs
effect (Branch cond untaken rs rt offset) regs = leads regs.slot (branched (holds cond (register regs rs) (register regs rt)) untaken offset regs)
effect (BranchZero cond untaken rs offset) regs = leads regs.slot (branched (holds cond (register regs rs) 0) untaken offset regs)
effect (BranchZeroAndLink cond untaken rs offset) regs = leads regs.slot (branched (holds cond (register regs rs) 0) untaken offset (linked regs 31))
effect (TrapImmediate cond rs immediate) regs = trapped (holds cond (register regs rs) (sign_extended immediate)) regs
effect (Jump index) regs = leads regs.slot (to_slot regs (jump_target regs index))
effect (JumpAndLink index) regs = leads regs.slot (to_slot (linked regs 31) (jump_target regs index))
effect (AluImmediate op rs rt immediate) regs = computed (alu op (register regs rs) (operand op immediate)) rt regs
effect (LoadUpper rt immediate) regs = computed (Some (immediate * 2 ^ 16)) rt regs
effect (Load kind base rt offset) regs = done regs (asks.Load kind (address regs base offset) rt)
effect (Store kind base rt offset) regs = done regs (asks.Store kind (address regs base offset) (register regs rt))
effect (LoadLinked base rt offset) regs = done regs (asks.LoadLinked (address regs base offset) rt)
effect (StoreConditional base rt offset) regs = done regs (asks.StoreConditional (address regs base offset) (register regs rt) rt)
effect (MoveFromCp0 rt rd) regs = done regs (asks.ReadCp0 rd rt)
effect (MoveToCp0 rt rd) regs = done regs (asks.WriteCp0 rd (register regs rt))
effect (Cp0 op) regs = system op regs
effect (Coprocessor unit word) regs = Err (raised.CoprocessorUnusable unit)
effect (Reserved word) regs = Err raised.ReservedInstruction

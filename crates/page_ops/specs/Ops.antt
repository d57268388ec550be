-- The instruction for which a flat form stands, and what its code has to do.
use Rattle.std.specs.Prelude.{◌≡◌, ◌≢◌, ℕ, Bool, true, false, Option, Some, None, Result, Ok}
use Rattle.base_words.specs.declared.regs.Regs.{Regs}
use Rattle.base_words.specs.declared.exception.Exception.{Exception}
use Rattle.base_words.specs.declared.effect.Request.{Request}
use Rattle.base_words.specs.declared.effect.Request.TheVariants as asks
use Rattle.base_words.specs.declared.instr.Instr.{Instr}
use Rattle.base_words.specs.declared.instr.Instr.TheVariants as instrs
use Rattle.base_words.specs.declared.instr.AluOp.TheVariants as alu
use Rattle.base_words.specs.declared.instr.ShiftOp.TheVariants as shift
use Rattle.base_words.specs.declared.instr.Cond.TheVariants as conds
use Rattle.base_words.specs.declared.instr.Half.TheVariants as halves
use Rattle.base_words.specs.declared.instr.Untaken.TheVariants as untaken
use Rattle.base_words.specs.OpcodeMap.{decoded}
use Rattle.base_words.specs.Instruction.{Effect, effect, done, with_register}
use Rattle.mips_alu.specs.Execution.{Executes}
use Rattle.mips_alu.specs.declared.arithmetic.AluOut.{AluOut}
use Rattle.mips_alu.specs.declared.arithmetic.AluOut.TheVariants as outs
use Rattle.page_ops.specs.declared.op.Op.{Op}
use Rattle.page_ops.specs.declared.op.Op.TheVariants as ops

-- the instruction
abbrev pub instr_of : Op → Instr
instr_of (ops.NoOperation op rt amount) = instrs.Shift op rt 0 amount
instr_of ops.Sync = instrs.Sync
instr_of (ops.ShiftLeft rt rd amount) = instrs.Shift shift.Left rt rd amount
instr_of (ops.ShiftRight rt rd amount) = instrs.Shift shift.RightLogical rt rd amount
instr_of (ops.ShiftRightSigned rt rd amount) = instrs.Shift shift.RightArithmetic rt rd amount
instr_of (ops.ShiftLeftBy rs rt rd) = instrs.ShiftVariable shift.Left rs rt rd
instr_of (ops.ShiftRightBy rs rt rd) = instrs.ShiftVariable shift.RightLogical rs rt rd
instr_of (ops.ShiftRightSignedBy rs rt rd) = instrs.ShiftVariable shift.RightArithmetic rs rt rd
instr_of (ops.Add rs rt rd) = instrs.Alu alu.Add rs rt rd
instr_of (ops.AddUnsigned rs rt rd) = instrs.Alu alu.AddUnsigned rs rt rd
instr_of (ops.Subtract rs rt rd) = instrs.Alu alu.Subtract rs rt rd
instr_of (ops.SubtractUnsigned rs rt rd) = instrs.Alu alu.SubtractUnsigned rs rt rd
instr_of (ops.And rs rt rd) = instrs.Alu alu.And rs rt rd
instr_of (ops.Or rs rt rd) = instrs.Alu alu.Or rs rt rd
instr_of (ops.Xor rs rt rd) = instrs.Alu alu.Xor rs rt rd
instr_of (ops.Nor rs rt rd) = instrs.Alu alu.Nor rs rt rd
instr_of (ops.SetLess rs rt rd) = instrs.Alu alu.SetLess rs rt rd
instr_of (ops.SetLessUnsigned rs rt rd) = instrs.Alu alu.SetLessUnsigned rs rt rd
instr_of (ops.AddImmediate rs rt immediate) = instrs.AluImmediate alu.Add rs rt immediate
instr_of (ops.AddImmediateUnsigned rs rt immediate) = instrs.AluImmediate alu.AddUnsigned rs rt immediate
instr_of (ops.SetLessImmediate rs rt immediate) = instrs.AluImmediate alu.SetLess rs rt immediate
instr_of (ops.SetLessImmediateUnsigned rs rt immediate) = instrs.AluImmediate alu.SetLessUnsigned rs rt immediate
instr_of (ops.AndImmediate rs rt immediate) = instrs.AluImmediate alu.And rs rt immediate
instr_of (ops.OrImmediate rs rt immediate) = instrs.AluImmediate alu.Or rs rt immediate
instr_of (ops.XorImmediate rs rt immediate) = instrs.AluImmediate alu.Xor rs rt immediate
instr_of (ops.LoadUpper rt immediate) = instrs.LoadUpper rt immediate
instr_of (ops.MoveFromHi rd) = instrs.MoveFrom halves.Hi rd
instr_of (ops.MoveFromLo rd) = instrs.MoveFrom halves.Lo rd
instr_of (ops.MoveToHi rs) = instrs.MoveTo halves.Hi rs
instr_of (ops.MoveToLo rs) = instrs.MoveTo halves.Lo rs
instr_of (ops.MulDiv op rs rt) = instrs.MulDiv op rs rt
instr_of (ops.Trap cond rs rt code) = instrs.Trap cond rs rt code
instr_of (ops.TrapImmediate cond rs immediate) = instrs.TrapImmediate cond rs immediate
instr_of (ops.BranchEqual rs rt offset) = instrs.Branch conds.Equal untaken.Slot rs rt offset
instr_of (ops.BranchNotEqual rs rt offset) = instrs.Branch conds.NotEqual untaken.Slot rs rt offset
instr_of (ops.BranchZero cond rs offset) = instrs.BranchZero cond untaken.Slot rs offset
instr_of (ops.BranchEqualLikely rs rt offset) = instrs.Branch conds.Equal untaken.PastSlot rs rt offset
instr_of (ops.BranchNotEqualLikely rs rt offset) = instrs.Branch conds.NotEqual untaken.PastSlot rs rt offset
instr_of (ops.BranchZeroLikely cond rs offset) = instrs.BranchZero cond untaken.PastSlot rs offset
instr_of (ops.BranchZeroAndLink cond rs offset) = instrs.BranchZeroAndLink cond untaken.Slot rs offset
instr_of (ops.Jump index) = instrs.Jump index
instr_of (ops.JumpAndLink index) = instrs.JumpAndLink index
instr_of (ops.JumpRegister rs) = instrs.JumpRegister rs
instr_of (ops.JumpAndLinkRegister rs rd) = instrs.JumpAndLinkRegister rs rd
instr_of (ops.Load kind base rt offset) = instrs.Load kind base rt offset
instr_of (ops.Store kind base rt offset) = instrs.Store kind base rt offset
instr_of (ops.Rest instr) = instr

-- the register that it writes; of what writes none, 1
abbrev pub writes : Op → ℕ
writes (ops.NoOperation op rt amount) = 1
writes ops.Sync = 1
writes (ops.ShiftLeft rt rd amount) = rd
writes (ops.ShiftRight rt rd amount) = rd
writes (ops.ShiftRightSigned rt rd amount) = rd
writes (ops.ShiftLeftBy rs rt rd) = rd
writes (ops.ShiftRightBy rs rt rd) = rd
writes (ops.ShiftRightSignedBy rs rt rd) = rd
writes (ops.Add rs rt rd) = rd
writes (ops.AddUnsigned rs rt rd) = rd
writes (ops.Subtract rs rt rd) = rd
writes (ops.SubtractUnsigned rs rt rd) = rd
writes (ops.And rs rt rd) = rd
writes (ops.Or rs rt rd) = rd
writes (ops.Xor rs rt rd) = rd
writes (ops.Nor rs rt rd) = rd
writes (ops.SetLess rs rt rd) = rd
writes (ops.SetLessUnsigned rs rt rd) = rd
writes (ops.AddImmediate rs rt immediate) = rt
writes (ops.AddImmediateUnsigned rs rt immediate) = rt
writes (ops.SetLessImmediate rs rt immediate) = rt
writes (ops.SetLessImmediateUnsigned rs rt immediate) = rt
writes (ops.AndImmediate rs rt immediate) = rt
writes (ops.OrImmediate rs rt immediate) = rt
writes (ops.XorImmediate rs rt immediate) = rt
writes (ops.LoadUpper rt immediate) = rt
writes (ops.MoveFromHi rd) = rd
writes (ops.MoveFromLo rd) = rd
writes (ops.MoveToHi rs) = 1
writes (ops.MoveToLo rs) = 1
writes (ops.MulDiv op rs rt) = 1
writes (ops.Trap cond rs rt code) = 1
writes (ops.TrapImmediate cond rs immediate) = 1
writes (ops.BranchEqual rs rt offset) = 1
writes (ops.BranchNotEqual rs rt offset) = 1
writes (ops.BranchZero cond rs offset) = 1
writes (ops.BranchEqualLikely rs rt offset) = 1
writes (ops.BranchNotEqualLikely rs rt offset) = 1
writes (ops.BranchZeroLikely cond rs offset) = 1
writes (ops.BranchZeroAndLink cond rs offset) = 1
writes (ops.Jump index) = 1
writes (ops.JumpAndLink index) = 1
writes (ops.JumpRegister rs) = 1
writes (ops.JumpAndLinkRegister rs rd) = rd
writes (ops.Load kind base rt offset) = 1
writes (ops.Store kind base rt offset) = 1
writes (ops.Rest instr) = 1

-- that is another one than register 0
abbrev pub HasTarget : Op → Type 0
HasTarget op = writes op ≢ 0

-- an instruction's flat form, and a word's
pub record IsOp (op : Op) (instr : Instr) : Type 0 where
  pub stands : instr_of op ≡ instr
  pub target : HasTarget op

abbrev pub IsOpOf : Op → ℕ → Type 0
IsOpOf op word = IsOp op (decoded word)

-- what is done is the effect, or waits for an answer; or nothing is done, and the caller has to do it
abbrev pub Runs : Result Effect Exception → Regs → Regs → Option Request → Type 0
Runs does old new (Some request) = Executes does old new (Ok request)
Runs does old new None = new ≡ old

-- a register has another value, wherever the program counter stands
abbrev pub Sets : Regs → ℕ → ℕ → Regs → Type 0
Sets old number value new = (pc : ℕ) (slot : Option ℕ) → with_register (record old { pc = pc; slot = slot }) number value ≡ record new { pc = pc; slot = slot }

-- it has a result that fits; of one that overflows nothing is done
abbrev pub Puts : Regs → ℕ → AluOut → Regs → Bool → Type 0
Puts old number (outs.Value value) new done = Sets old number value new × (new.pc ≡ old.pc) × (new.slot ≡ old.slot) × (done ≡ true)
Puts old number outs.Overflow new done = (new ≡ old) × (done ≡ false)

-- an instruction does all by itself, wherever the program counter stands, which it leaves; or nothing is done
abbrev pub Does : Instr → Regs → Regs → Bool → Type 0
Does instr old new true = ((pc : ℕ) (slot : Option ℕ) → effect instr (record old { pc = pc; slot = slot }) ≡ done (record new { pc = pc; slot = slot }) asks.Nothing) × (new.pc ≡ old.pc) × (new.slot ≡ old.slot)
Does instr old new false = new ≡ old

abbrev pub Computes : Op → Regs → Regs → Bool → Type 0
Computes op old new done = Does (instr_of op) old new done

-- what an instruction asks of memory, wherever the program counter stands
abbrev pub AsksFor : Op → Regs → Option Request → Type 0
AsksFor op regs (Some request) = (pc : ℕ) (slot : Option ℕ) → Executes (effect (instr_of op) (record regs { pc = pc; slot = slot })) (record regs { pc = pc; slot = slot }) (record regs { pc = pc; slot = slot }) (Ok request)
AsksFor op regs None = Unit {0}

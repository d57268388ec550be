-- The word of an instruction: its fields side by side, modulo 2^32.
use Rattle.std.specs.Prelude.{ℕ, ◌+◌, ◌*◌, ◌%◌, ◌^◌}
use Rattle.base_words.specs.declared.instr.Cond.{Cond}
use Rattle.base_words.specs.declared.instr.Cond.TheVariants.{LessOrEqual, Greater}
use Rattle.base_words.specs.declared.instr.Untaken.{Untaken}
use Rattle.base_words.specs.declared.instr.Cp0Op.{Cp0Op}
use Rattle.base_words.specs.declared.instr.Cp0Op.TheVariants.{TlbRead, TlbWriteIndexed, TlbWriteRandom, TlbProbe, ExceptionReturn}
use Rattle.base_words.specs.declared.instr.Primary.{Primary}
use Rattle.base_words.specs.declared.instr.Primary.TheVariants as primary
use Rattle.base_words.specs.declared.instr.Special.{Special}
use Rattle.base_words.specs.declared.instr.Special.TheVariants as special
use Rattle.base_words.specs.declared.instr.RegisterImmediate.{RegisterImmediate}
use Rattle.base_words.specs.declared.instr.RegisterImmediate.TheVariants as immediates
use Rattle.base_words.specs.declared.instr.Instr.{Instr}
use Rattle.base_words.specs.declared.instr.Instr.TheVariants.{Shift, ShiftVariable, JumpRegister, JumpAndLinkRegister, SystemCall, Break, Sync, MoveFrom, MoveTo, MulDiv, Alu, Trap, Branch, BranchZero, BranchZeroAndLink, TrapImmediate, Jump, JumpAndLink, AluImmediate, LoadUpper, Load, Store, LoadLinked, StoreConditional, MoveFromCp0, MoveToCp0, Cp0, Coprocessor, Reserved}
use Rattle.mips_isa.specs.PlaceCodes.{primary_code, special_code, register_immediate_code}

-- two registers and an immediate
abbrev pub immediate_form : Primary → ℕ → ℕ → ℕ → ℕ
immediate_form place rs rt immediate =
    (primary_code place * 2 ^ 26 + rs * 2 ^ 21 + rt * 2 ^ 16 + immediate) % 2 ^ 32

-- an index
abbrev pub jump_form : Primary → ℕ → ℕ
jump_form place index = (primary_code place * 2 ^ 26 + index) % 2 ^ 32

-- three registers and an amount, of opcode 0
abbrev pub register_form : Special → ℕ → ℕ → ℕ → ℕ → ℕ
register_form place rs rt rd sa = rs * 2 ^ 21 + rt * 2 ^ 16 + rd * 2 ^ 11 + sa * 2 ^ 6 + special_code place

-- a code of 20 bits, of opcode 0
abbrev pub code_form : Special → ℕ → ℕ
code_form place code = code * 2 ^ 6 + special_code place

-- a register and an immediate, of opcode 1
abbrev pub one_form : RegisterImmediate → ℕ → ℕ → ℕ
one_form place rs immediate = 2 ^ 26 + rs * 2 ^ 21 + register_immediate_code place * 2 ^ 16 + immediate

-- a branch on a register against 0: two conditions have opcodes of their own
abbrev pub branch_zero_word : Cond → Untaken → ℕ → ℕ → ℕ
branch_zero_word LessOrEqual untaken rs offset = immediate_form (primary.BranchZero LessOrEqual untaken) rs 0 offset
branch_zero_word Greater untaken rs offset = immediate_form (primary.BranchZero Greater untaken) rs 0 offset
branch_zero_word cond untaken rs offset = one_form (immediates.Branch cond untaken) rs offset

abbrev pub cp0_word : Cp0Op → ℕ
cp0_word TlbRead = 0x4200_0001
cp0_word TlbWriteIndexed = 0x4200_0002
cp0_word TlbWriteRandom = 0x4200_0006
cp0_word TlbProbe = 0x4200_0008
cp0_word ExceptionReturn = 0x4200_0018

-- the word of an instruction
abbrev pub encoded : Instr → ℕ
encoded (Shift op rt rd amount) = register_form (special.Shift op) 0 rt rd amount
encoded (ShiftVariable op rs rt rd) = register_form (special.ShiftVariable op) rs rt rd 0
encoded (JumpRegister rs) = register_form special.JumpRegister rs 0 0 0
encoded (JumpAndLinkRegister rs rd) = register_form special.JumpAndLinkRegister rs 0 rd 0
encoded (SystemCall code) = code_form special.SystemCall code
encoded (Break code) = code_form special.Break code
encoded Sync = code_form special.Sync 0
encoded (MoveFrom half rd) = register_form (special.MoveFrom half) 0 0 rd 0
encoded (MoveTo half rs) = register_form (special.MoveTo half) rs 0 0 0
encoded (MulDiv op rs rt) = register_form (special.MulDiv op) rs rt 0 0
encoded (Alu op rs rt rd) = register_form (special.Alu op) rs rt rd 0
encoded (Trap cond rs rt code) = rs * 2 ^ 21 + rt * 2 ^ 16 + code_form (special.Trap cond) code
encoded (Branch cond untaken rs rt offset) = immediate_form (primary.Branch cond untaken) rs rt offset
encoded (BranchZero cond untaken rs offset) = branch_zero_word cond untaken rs offset
encoded (BranchZeroAndLink cond untaken rs offset) = one_form (immediates.BranchAndLink cond untaken) rs offset
encoded (TrapImmediate cond rs immediate) = one_form (immediates.Trap cond) rs immediate
encoded (Jump index) = jump_form primary.Jump index
encoded (JumpAndLink index) = jump_form primary.JumpAndLink index
encoded (AluImmediate op rs rt immediate) = immediate_form (primary.AluImmediate op) rs rt immediate
encoded (LoadUpper rt immediate) = immediate_form primary.LoadUpper 0 rt immediate
encoded (Load kind base rt offset) = immediate_form (primary.Load kind) base rt offset
encoded (Store kind base rt offset) = immediate_form (primary.Store kind) base rt offset
encoded (LoadLinked base rt offset) = immediate_form primary.LoadLinked base rt offset
encoded (StoreConditional base rt offset) = immediate_form primary.StoreConditional base rt offset
encoded (MoveFromCp0 rt rd) = immediate_form primary.Coprocessor0 0 rt (rd * 2 ^ 11)
encoded (MoveToCp0 rt rd) = immediate_form primary.Coprocessor0 4 rt (rd * 2 ^ 11)
encoded (Cp0 op) = cp0_word op
encoded (Coprocessor unit word) = word
encoded (Reserved word) = word

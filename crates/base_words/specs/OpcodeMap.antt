-- Which instruction a word is (MIPS R4000 User's Manual, appendix A, "CPU Instruction Opcode Bit Encoding").
use Rattle.std.specs.Prelude.{ℕ, ◌/◌, ◌%◌, ◌^◌, List, [], ◌∷◌, Bool, true, false, ◌&&◌, slice_index_or, ◌==◌, if◌then◌else◌}
use Rattle.base_words.specs.declared.instr.AluOp.TheVariants.{Add, AddUnsigned, Subtract, SubtractUnsigned, And, Or, Xor, Nor, SetLess, SetLessUnsigned}
use Rattle.base_words.specs.declared.instr.ShiftOp.TheVariants.{Left, RightLogical, RightArithmetic}
use Rattle.base_words.specs.declared.instr.MulOp.TheVariants.{Multiply, MultiplyUnsigned, Divide, DivideUnsigned}
use Rattle.base_words.specs.declared.instr.Cond.TheVariants.{Equal, NotEqual, Less, LessUnsigned, LessOrEqual, Greater, GreaterOrEqual, GreaterOrEqualUnsigned}
use Rattle.base_words.specs.declared.instr.Half.TheVariants.{Hi, Lo}
use Rattle.base_words.specs.declared.instr.LoadKind.TheVariants.{Byte, ByteUnsigned, HalfWord, HalfWordUnsigned, Word, WordLeft, WordRight}
use Rattle.base_words.specs.declared.instr.StoreKind.TheVariants as stored
use Rattle.base_words.specs.declared.instr.Cp0Op.TheVariants.{TlbRead, TlbWriteIndexed, TlbWriteRandom, TlbProbe, ExceptionReturn}
use Rattle.base_words.specs.declared.instr.Untaken.TheVariants.{Slot, PastSlot}
use Rattle.base_words.specs.declared.instr.Primary.{Primary}
use Rattle.base_words.specs.declared.instr.Primary.TheVariants as primary
use Rattle.base_words.specs.declared.instr.Special.{Special}
use Rattle.base_words.specs.declared.instr.Special.TheVariants as special
use Rattle.base_words.specs.declared.instr.RegisterImmediate.{RegisterImmediate}
use Rattle.base_words.specs.declared.instr.RegisterImmediate.TheVariants as immediates
use Rattle.base_words.specs.declared.instr.Instr.{Instr}
use Rattle.base_words.specs.declared.instr.Instr.TheVariants.{Shift, ShiftVariable, JumpRegister, JumpAndLinkRegister, SystemCall, Break, Sync, MoveFrom, MoveTo, MulDiv, Alu, Trap, Branch, BranchZero, BranchZeroAndLink, TrapImmediate, Jump, JumpAndLink, AluImmediate, LoadUpper, Load, Store, LoadLinked, StoreConditional, MoveFromCp0, MoveToCp0, Cp0, Coprocessor, Reserved}
use Rattle.base_words.specs.Fields.{opcode, function, rs, rt, rd, sa, immediate, jump_index, system_code, trap_code}

-- by bits 31 to 26, eight to a line
abbrev pub primary_map : List Primary
primary_map =
    primary.Special ∷ primary.RegisterImmediate ∷ primary.Jump ∷ primary.JumpAndLink ∷ primary.Branch Equal Slot ∷ primary.Branch NotEqual Slot ∷ primary.BranchZero LessOrEqual Slot ∷ primary.BranchZero Greater Slot
    ∷ primary.AluImmediate Add ∷ primary.AluImmediate AddUnsigned ∷ primary.AluImmediate SetLess ∷ primary.AluImmediate SetLessUnsigned ∷ primary.AluImmediate And ∷ primary.AluImmediate Or ∷ primary.AluImmediate Xor ∷ primary.LoadUpper
    ∷ primary.Coprocessor0 ∷ primary.Coprocessor 1 ∷ primary.Coprocessor 2 ∷ primary.Reserved ∷ primary.Branch Equal PastSlot ∷ primary.Branch NotEqual PastSlot ∷ primary.BranchZero LessOrEqual PastSlot ∷ primary.BranchZero Greater PastSlot
    ∷ primary.Reserved ∷ primary.Reserved ∷ primary.Reserved ∷ primary.Reserved ∷ primary.Reserved ∷ primary.Reserved ∷ primary.Reserved ∷ primary.Reserved
    ∷ primary.Load Byte ∷ primary.Load HalfWord ∷ primary.Load WordLeft ∷ primary.Load Word ∷ primary.Load ByteUnsigned ∷ primary.Load HalfWordUnsigned ∷ primary.Load WordRight ∷ primary.Reserved
    ∷ primary.Store stored.Byte ∷ primary.Store stored.HalfWord ∷ primary.Store stored.WordLeft ∷ primary.Store stored.Word ∷ primary.Reserved ∷ primary.Reserved ∷ primary.Store stored.WordRight ∷ primary.Reserved
    ∷ primary.LoadLinked ∷ primary.Coprocessor 1 ∷ primary.Coprocessor 2 ∷ primary.Reserved ∷ primary.Reserved ∷ primary.Coprocessor 1 ∷ primary.Coprocessor 2 ∷ primary.Reserved
    ∷ primary.StoreConditional ∷ primary.Coprocessor 1 ∷ primary.Coprocessor 2 ∷ primary.Reserved ∷ primary.Reserved ∷ primary.Coprocessor 1 ∷ primary.Coprocessor 2 ∷ primary.Reserved ∷ []

-- of opcode 0, by bits 5 to 0
abbrev pub special_map : List Special
special_map =
    special.Shift Left ∷ special.Reserved ∷ special.Shift RightLogical ∷ special.Shift RightArithmetic ∷ special.ShiftVariable Left ∷ special.Reserved ∷ special.ShiftVariable RightLogical ∷ special.ShiftVariable RightArithmetic
    ∷ special.JumpRegister ∷ special.JumpAndLinkRegister ∷ special.Reserved ∷ special.Reserved ∷ special.SystemCall ∷ special.Break ∷ special.Reserved ∷ special.Sync
    ∷ special.MoveFrom Hi ∷ special.MoveTo Hi ∷ special.MoveFrom Lo ∷ special.MoveTo Lo ∷ special.Reserved ∷ special.Reserved ∷ special.Reserved ∷ special.Reserved
    ∷ special.MulDiv Multiply ∷ special.MulDiv MultiplyUnsigned ∷ special.MulDiv Divide ∷ special.MulDiv DivideUnsigned ∷ special.Reserved ∷ special.Reserved ∷ special.Reserved ∷ special.Reserved
    ∷ special.Alu Add ∷ special.Alu AddUnsigned ∷ special.Alu Subtract ∷ special.Alu SubtractUnsigned ∷ special.Alu And ∷ special.Alu Or ∷ special.Alu Xor ∷ special.Alu Nor
    ∷ special.Reserved ∷ special.Reserved ∷ special.Alu SetLess ∷ special.Alu SetLessUnsigned ∷ special.Reserved ∷ special.Reserved ∷ special.Reserved ∷ special.Reserved
    ∷ special.Trap GreaterOrEqual ∷ special.Trap GreaterOrEqualUnsigned ∷ special.Trap Less ∷ special.Trap LessUnsigned ∷ special.Trap Equal ∷ special.Reserved ∷ special.Trap NotEqual ∷ special.Reserved
    ∷ special.Reserved ∷ special.Reserved ∷ special.Reserved ∷ special.Reserved ∷ special.Reserved ∷ special.Reserved ∷ special.Reserved ∷ special.Reserved ∷ []

-- of opcode 1, by bits 20 to 16
abbrev pub register_immediate_map : List RegisterImmediate
register_immediate_map =
    immediates.Branch Less Slot ∷ immediates.Branch GreaterOrEqual Slot ∷ immediates.Branch Less PastSlot ∷ immediates.Branch GreaterOrEqual PastSlot ∷ immediates.Reserved ∷ immediates.Reserved ∷ immediates.Reserved ∷ immediates.Reserved
    ∷ immediates.Trap GreaterOrEqual ∷ immediates.Trap GreaterOrEqualUnsigned ∷ immediates.Trap Less ∷ immediates.Trap LessUnsigned ∷ immediates.Trap Equal ∷ immediates.Reserved ∷ immediates.Trap NotEqual ∷ immediates.Reserved
    ∷ immediates.BranchAndLink Less Slot ∷ immediates.BranchAndLink GreaterOrEqual Slot ∷ immediates.BranchAndLink Less PastSlot ∷ immediates.BranchAndLink GreaterOrEqual PastSlot ∷ immediates.Reserved ∷ immediates.Reserved ∷ immediates.Reserved ∷ immediates.Reserved
    ∷ immediates.Reserved ∷ immediates.Reserved ∷ immediates.Reserved ∷ immediates.Reserved ∷ immediates.Reserved ∷ immediates.Reserved ∷ immediates.Reserved ∷ immediates.Reserved ∷ []

-- the instruction, where the fields that aren't free in it are 0
abbrev pub where_zero : Bool → ℕ → Instr → Instr
where_zero true word instr = instr
where_zero false word instr = Reserved word

abbrev pub special_instruction : Special → ℕ → Instr
special_instruction (special.Shift op) w = where_zero (rs w == 0) w (Shift op (rt w) (rd w) (sa w))
special_instruction (special.ShiftVariable op) w = where_zero (sa w == 0) w (ShiftVariable op (rs w) (rt w) (rd w))
special_instruction special.JumpRegister w = where_zero (w / 2 ^ 6 % 2 ^ 15 == 0) w (JumpRegister (rs w))
special_instruction special.JumpAndLinkRegister w = where_zero ((rt w == 0) && (sa w == 0)) w (JumpAndLinkRegister (rs w) (rd w))
special_instruction special.SystemCall w = SystemCall (system_code w)
special_instruction special.Break w = Break (system_code w)
special_instruction special.Sync w = where_zero (system_code w == 0) w Sync
special_instruction (special.MoveFrom half) w = where_zero ((w / 2 ^ 16 % 2 ^ 10 == 0) && (sa w == 0)) w (MoveFrom half (rd w))
special_instruction (special.MoveTo half) w = where_zero (w / 2 ^ 6 % 2 ^ 15 == 0) w (MoveTo half (rs w))
special_instruction (special.MulDiv op) w = where_zero (trap_code w == 0) w (MulDiv op (rs w) (rt w))
special_instruction (special.Alu op) w = where_zero (sa w == 0) w (Alu op (rs w) (rt w) (rd w))
special_instruction (special.Trap cond) w = Trap cond (rs w) (rt w) (trap_code w)
special_instruction special.Reserved w = Reserved w

abbrev pub register_immediate_instruction : RegisterImmediate → ℕ → Instr
register_immediate_instruction (immediates.Branch cond untaken) w = BranchZero cond untaken (rs w) (immediate w)
register_immediate_instruction (immediates.BranchAndLink cond untaken) w = BranchZeroAndLink cond untaken (rs w) (immediate w)
register_immediate_instruction (immediates.Trap cond) w = TrapImmediate cond (rs w) (immediate w)
register_immediate_instruction immediates.Reserved w = Reserved w

-- of opcode 16: a move, by bits 25 to 21, or one of five whole words
abbrev pub cp0_instruction : ℕ → Instr
cp0_instruction w =
    if rs w == 0 then where_zero (w % 2 ^ 11 == 0) w (MoveFromCp0 (rt w) (rd w))
    else if rs w == 4 then where_zero (w % 2 ^ 11 == 0) w (MoveToCp0 (rt w) (rd w))
    else if w == 0x4200_0001 then Cp0 TlbRead
    else if w == 0x4200_0002 then Cp0 TlbWriteIndexed
    else if w == 0x4200_0006 then Cp0 TlbWriteRandom
    else if w == 0x4200_0008 then Cp0 TlbProbe
    else if w == 0x4200_0018 then Cp0 ExceptionReturn
    else Reserved w

abbrev pub instruction_at : Primary → ℕ → Instr
instruction_at primary.Special w = special_instruction (slice_index_or special_map (function w) special.Reserved) w
instruction_at primary.RegisterImmediate w = register_immediate_instruction (slice_index_or register_immediate_map (rt w) immediates.Reserved) w
instruction_at primary.Jump w = Jump (jump_index w)
instruction_at primary.JumpAndLink w = JumpAndLink (jump_index w)
instruction_at (primary.Branch cond untaken) w = Branch cond untaken (rs w) (rt w) (immediate w)
instruction_at (primary.BranchZero cond untaken) w = where_zero (rt w == 0) w (BranchZero cond untaken (rs w) (immediate w))
instruction_at (primary.AluImmediate op) w = AluImmediate op (rs w) (rt w) (immediate w)
instruction_at primary.LoadUpper w = where_zero (rs w == 0) w (LoadUpper (rt w) (immediate w))
instruction_at primary.Coprocessor0 w = cp0_instruction w
instruction_at (primary.Coprocessor unit) w = Coprocessor unit w
instruction_at (primary.Load kind) w = Load kind (rs w) (rt w) (immediate w)
instruction_at (primary.Store kind) w = Store kind (rs w) (rt w) (immediate w)
instruction_at primary.LoadLinked w = LoadLinked (rs w) (rt w) (immediate w)
instruction_at primary.StoreConditional w = StoreConditional (rs w) (rt w) (immediate w)
instruction_at primary.Reserved w = Reserved w

-- the instruction that a word is
abbrev pub decoded : ℕ → Instr
decoded w = instruction_at (slice_index_or primary_map (opcode w) primary.Reserved) w

-- At which place of a map an entry stands; outside the map where it stands at none.
use Rattle.std.specs.Prelude.{ℕ}
use Rattle.base_words.specs.declared.instr.AluOp.TheVariants.{Add, AddUnsigned, Subtract, SubtractUnsigned, And, Or, Xor, Nor, SetLess, SetLessUnsigned}
use Rattle.base_words.specs.declared.instr.ShiftOp.TheVariants.{Left, RightLogical, RightArithmetic}
use Rattle.base_words.specs.declared.instr.MulOp.TheVariants.{Multiply, MultiplyUnsigned, Divide, DivideUnsigned}
use Rattle.base_words.specs.declared.instr.Cond.TheVariants.{Equal, NotEqual, Less, LessUnsigned, LessOrEqual, Greater, GreaterOrEqual, GreaterOrEqualUnsigned}
use Rattle.base_words.specs.declared.instr.Half.TheVariants.{Hi, Lo}
use Rattle.base_words.specs.declared.instr.LoadKind.TheVariants.{Byte, ByteUnsigned, HalfWord, HalfWordUnsigned, Word, WordLeft, WordRight}
use Rattle.base_words.specs.declared.instr.StoreKind.TheVariants as stored
use Rattle.base_words.specs.declared.instr.Untaken.TheVariants.{Slot, PastSlot}
use Rattle.base_words.specs.declared.instr.Primary.{Primary}
use Rattle.base_words.specs.declared.instr.Primary.TheVariants as primary
use Rattle.base_words.specs.declared.instr.Special.{Special}
use Rattle.base_words.specs.declared.instr.Special.TheVariants as special
use Rattle.base_words.specs.declared.instr.RegisterImmediate.{RegisterImmediate}
use Rattle.base_words.specs.declared.instr.RegisterImmediate.TheVariants as immediates

-- bits 31 to 26 of an instruction
abbrev pub primary_code : Primary → ℕ
primary_code primary.Special = 0
primary_code primary.RegisterImmediate = 1
primary_code primary.Jump = 2
primary_code primary.JumpAndLink = 3
primary_code (primary.Branch Equal Slot) = 4
primary_code (primary.Branch NotEqual Slot) = 5
primary_code (primary.BranchZero LessOrEqual Slot) = 6
primary_code (primary.BranchZero Greater Slot) = 7
primary_code (primary.AluImmediate Add) = 8
primary_code (primary.AluImmediate AddUnsigned) = 9
primary_code (primary.AluImmediate SetLess) = 10
primary_code (primary.AluImmediate SetLessUnsigned) = 11
primary_code (primary.AluImmediate And) = 12
primary_code (primary.AluImmediate Or) = 13
primary_code (primary.AluImmediate Xor) = 14
primary_code primary.LoadUpper = 15
primary_code primary.Coprocessor0 = 16
primary_code (primary.Branch Equal PastSlot) = 20
primary_code (primary.Branch NotEqual PastSlot) = 21
primary_code (primary.BranchZero LessOrEqual PastSlot) = 22
primary_code (primary.BranchZero Greater PastSlot) = 23
primary_code (primary.Load Byte) = 32
primary_code (primary.Load HalfWord) = 33
primary_code (primary.Load WordLeft) = 34
primary_code (primary.Load Word) = 35
primary_code (primary.Load ByteUnsigned) = 36
primary_code (primary.Load HalfWordUnsigned) = 37
primary_code (primary.Load WordRight) = 38
primary_code (primary.Store stored.Byte) = 40
primary_code (primary.Store stored.HalfWord) = 41
primary_code (primary.Store stored.WordLeft) = 42
primary_code (primary.Store stored.Word) = 43
primary_code (primary.Store stored.WordRight) = 46
primary_code primary.LoadLinked = 48
primary_code primary.StoreConditional = 56
primary_code _ = 64

-- bits 5 to 0 of an instruction of opcode 0
abbrev pub special_code : Special → ℕ
special_code (special.Shift Left) = 0
special_code (special.Shift RightLogical) = 2
special_code (special.Shift RightArithmetic) = 3
special_code (special.ShiftVariable Left) = 4
special_code (special.ShiftVariable RightLogical) = 6
special_code (special.ShiftVariable RightArithmetic) = 7
special_code special.JumpRegister = 8
special_code special.JumpAndLinkRegister = 9
special_code special.SystemCall = 12
special_code special.Break = 13
special_code special.Sync = 15
special_code (special.MoveFrom Hi) = 16
special_code (special.MoveTo Hi) = 17
special_code (special.MoveFrom Lo) = 18
special_code (special.MoveTo Lo) = 19
special_code (special.MulDiv Multiply) = 24
special_code (special.MulDiv MultiplyUnsigned) = 25
special_code (special.MulDiv Divide) = 26
special_code (special.MulDiv DivideUnsigned) = 27
special_code (special.Alu Add) = 32
special_code (special.Alu AddUnsigned) = 33
special_code (special.Alu Subtract) = 34
special_code (special.Alu SubtractUnsigned) = 35
special_code (special.Alu And) = 36
special_code (special.Alu Or) = 37
special_code (special.Alu Xor) = 38
special_code (special.Alu Nor) = 39
special_code (special.Alu SetLess) = 42
special_code (special.Alu SetLessUnsigned) = 43
special_code (special.Trap GreaterOrEqual) = 48
special_code (special.Trap GreaterOrEqualUnsigned) = 49
special_code (special.Trap Less) = 50
special_code (special.Trap LessUnsigned) = 51
special_code (special.Trap Equal) = 52
special_code (special.Trap NotEqual) = 54
special_code _ = 64

-- bits 20 to 16 of an instruction of opcode 1
abbrev pub register_immediate_code : RegisterImmediate → ℕ
register_immediate_code (immediates.Branch Less Slot) = 0
register_immediate_code (immediates.Branch GreaterOrEqual Slot) = 1
register_immediate_code (immediates.Branch Less PastSlot) = 2
register_immediate_code (immediates.Branch GreaterOrEqual PastSlot) = 3
register_immediate_code (immediates.Trap GreaterOrEqual) = 8
register_immediate_code (immediates.Trap GreaterOrEqualUnsigned) = 9
register_immediate_code (immediates.Trap Less) = 10
register_immediate_code (immediates.Trap LessUnsigned) = 11
register_immediate_code (immediates.Trap Equal) = 12
register_immediate_code (immediates.Trap NotEqual) = 14
register_immediate_code (immediates.BranchAndLink Less Slot) = 16
register_immediate_code (immediates.BranchAndLink GreaterOrEqual Slot) = 17
register_immediate_code (immediates.BranchAndLink Less PastSlot) = 18
register_immediate_code (immediates.BranchAndLink GreaterOrEqual PastSlot) = 19
register_immediate_code _ = 32

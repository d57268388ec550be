-- The table of mnemonics in the manual's order (MIPS R4000 User's Manual, appendix A, "CPU Instruction Opcode Bit Encoding"): opcode 0,
-- opcode 1, the other opcodes. A row has a mnemonic, the operands that it takes, and what it stands for. The last two rows are no instructions.
use Rattle.std.specs.Prelude.{ℕ, List, [], ◌∷◌, codes, Option, Some, None, if◌then◌else◌}
use Rattle.std.specs.Str.{bytes_eq}
use Rattle.base_words.specs.declared.instr.AluOp.TheVariants.{Add, AddUnsigned, Subtract, SubtractUnsigned, And, Or, Xor, Nor, SetLess, SetLessUnsigned}
use Rattle.base_words.specs.declared.instr.ShiftOp.TheVariants.{Left, RightLogical, RightArithmetic}
use Rattle.base_words.specs.declared.instr.MulOp.TheVariants.{Multiply, MultiplyUnsigned, Divide, DivideUnsigned}
use Rattle.base_words.specs.declared.instr.Cond.TheVariants.{Equal, NotEqual, Less, LessUnsigned, LessOrEqual, Greater, GreaterOrEqual, GreaterOrEqualUnsigned}
use Rattle.base_words.specs.declared.instr.Half.TheVariants.{Hi, Lo}
use Rattle.base_words.specs.declared.instr.LoadKind.TheVariants as loaded
use Rattle.base_words.specs.declared.instr.StoreKind.TheVariants as stored
use Rattle.base_words.specs.declared.instr.Cp0Op.TheVariants.{TlbRead, TlbWriteIndexed, TlbWriteRandom, TlbProbe, ExceptionReturn}
use Rattle.base_words.specs.declared.instr.Untaken.TheVariants.{Slot, PastSlot}
use Rattle.guest_asm.specs.declared.mnemonics.Form.{Form}
use Rattle.guest_asm.specs.declared.mnemonics.Form.TheVariants as form
use Rattle.guest_asm.specs.declared.mnemonics.Operation.{Operation}
use Rattle.guest_asm.specs.declared.mnemonics.Operation.TheVariants as operation

abbrev pub Row : Type 0
Row = List ℕ × Form × Operation

unfoldable pub mnemonics : List Row
mnemonics =
    (codes "sll", form.ShiftByAmount, operation.Shift Left)
    ∷ (codes "srl", form.ShiftByAmount, operation.Shift RightLogical)
    ∷ (codes "sra", form.ShiftByAmount, operation.Shift RightArithmetic)
    ∷ (codes "sllv", form.ShiftByRegister, operation.ShiftVariable Left)
    ∷ (codes "srlv", form.ShiftByRegister, operation.ShiftVariable RightLogical)
    ∷ (codes "srav", form.ShiftByRegister, operation.ShiftVariable RightArithmetic)
    ∷ (codes "jr", form.Source, operation.JumpRegister)
    ∷ (codes "jalr", form.DestinationSource, operation.JumpAndLinkRegister)
    ∷ (codes "syscall", form.Nothing, operation.SystemCall)
    ∷ (codes "break", form.Nothing, operation.Break)
    ∷ (codes "sync", form.Nothing, operation.Sync)
    ∷ (codes "mfhi", form.Destination, operation.MoveFrom Hi)
    ∷ (codes "mthi", form.Source, operation.MoveTo Hi)
    ∷ (codes "mflo", form.Destination, operation.MoveFrom Lo)
    ∷ (codes "mtlo", form.Source, operation.MoveTo Lo)
    ∷ (codes "mult", form.Sources, operation.MulDiv Multiply)
    ∷ (codes "multu", form.Sources, operation.MulDiv MultiplyUnsigned)
    ∷ (codes "div", form.Sources, operation.MulDiv Divide)
    ∷ (codes "divu", form.Sources, operation.MulDiv DivideUnsigned)
    ∷ (codes "add", form.DestinationSources, operation.Alu Add)
    ∷ (codes "addu", form.DestinationSources, operation.Alu AddUnsigned)
    ∷ (codes "sub", form.DestinationSources, operation.Alu Subtract)
    ∷ (codes "subu", form.DestinationSources, operation.Alu SubtractUnsigned)
    ∷ (codes "and", form.DestinationSources, operation.Alu And)
    ∷ (codes "or", form.DestinationSources, operation.Alu Or)
    ∷ (codes "xor", form.DestinationSources, operation.Alu Xor)
    ∷ (codes "nor", form.DestinationSources, operation.Alu Nor)
    ∷ (codes "slt", form.DestinationSources, operation.Alu SetLess)
    ∷ (codes "sltu", form.DestinationSources, operation.Alu SetLessUnsigned)
    ∷ (codes "tge", form.Sources, operation.Trap GreaterOrEqual)
    ∷ (codes "tgeu", form.Sources, operation.Trap GreaterOrEqualUnsigned)
    ∷ (codes "tlt", form.Sources, operation.Trap Less)
    ∷ (codes "tltu", form.Sources, operation.Trap LessUnsigned)
    ∷ (codes "teq", form.Sources, operation.Trap Equal)
    ∷ (codes "tne", form.Sources, operation.Trap NotEqual)
    ∷ (codes "bltz", form.SourceTarget, operation.BranchZero Less Slot)
    ∷ (codes "bgez", form.SourceTarget, operation.BranchZero GreaterOrEqual Slot)
    ∷ (codes "bltzl", form.SourceTarget, operation.BranchZero Less PastSlot)
    ∷ (codes "bgezl", form.SourceTarget, operation.BranchZero GreaterOrEqual PastSlot)
    ∷ (codes "tgei", form.SourceNumber, operation.TrapImmediate GreaterOrEqual)
    ∷ (codes "tgeiu", form.SourceNumber, operation.TrapImmediate GreaterOrEqualUnsigned)
    ∷ (codes "tlti", form.SourceNumber, operation.TrapImmediate Less)
    ∷ (codes "tltiu", form.SourceNumber, operation.TrapImmediate LessUnsigned)
    ∷ (codes "teqi", form.SourceNumber, operation.TrapImmediate Equal)
    ∷ (codes "tnei", form.SourceNumber, operation.TrapImmediate NotEqual)
    ∷ (codes "bltzal", form.SourceTarget, operation.BranchZeroAndLink Less Slot)
    ∷ (codes "bgezal", form.SourceTarget, operation.BranchZeroAndLink GreaterOrEqual Slot)
    ∷ (codes "bltzall", form.SourceTarget, operation.BranchZeroAndLink Less PastSlot)
    ∷ (codes "bgezall", form.SourceTarget, operation.BranchZeroAndLink GreaterOrEqual PastSlot)
    ∷ (codes "j", form.Target, operation.Jump)
    ∷ (codes "jal", form.Target, operation.JumpAndLink)
    ∷ (codes "beq", form.SourcesTarget, operation.Branch Equal Slot)
    ∷ (codes "bne", form.SourcesTarget, operation.Branch NotEqual Slot)
    ∷ (codes "blez", form.SourceTarget, operation.BranchZero LessOrEqual Slot)
    ∷ (codes "bgtz", form.SourceTarget, operation.BranchZero Greater Slot)
    ∷ (codes "addi", form.SignedNumber, operation.AluImmediate Add)
    ∷ (codes "addiu", form.SignedNumber, operation.AluImmediate AddUnsigned)
    ∷ (codes "slti", form.SignedNumber, operation.AluImmediate SetLess)
    ∷ (codes "sltiu", form.SignedNumber, operation.AluImmediate SetLessUnsigned)
    ∷ (codes "andi", form.UnsignedNumber, operation.AluImmediate And)
    ∷ (codes "ori", form.LowHalf, operation.AluImmediate Or)
    ∷ (codes "xori", form.UnsignedNumber, operation.AluImmediate Xor)
    ∷ (codes "lui", form.HighHalf, operation.LoadUpper)
    ∷ (codes "mfc0", form.Coprocessor, operation.MoveFromCp0)
    ∷ (codes "mtc0", form.Coprocessor, operation.MoveToCp0)
    ∷ (codes "tlbr", form.Nothing, operation.Cp0 TlbRead)
    ∷ (codes "tlbwi", form.Nothing, operation.Cp0 TlbWriteIndexed)
    ∷ (codes "tlbwr", form.Nothing, operation.Cp0 TlbWriteRandom)
    ∷ (codes "tlbp", form.Nothing, operation.Cp0 TlbProbe)
    ∷ (codes "eret", form.Nothing, operation.Cp0 ExceptionReturn)
    ∷ (codes "beql", form.SourcesTarget, operation.Branch Equal PastSlot)
    ∷ (codes "bnel", form.SourcesTarget, operation.Branch NotEqual PastSlot)
    ∷ (codes "blezl", form.SourceTarget, operation.BranchZero LessOrEqual PastSlot)
    ∷ (codes "bgtzl", form.SourceTarget, operation.BranchZero Greater PastSlot)
    ∷ (codes "lb", form.Memory, operation.Load loaded.Byte)
    ∷ (codes "lh", form.Memory, operation.Load loaded.HalfWord)
    ∷ (codes "lwl", form.Memory, operation.Load loaded.WordLeft)
    ∷ (codes "lw", form.Memory, operation.Load loaded.Word)
    ∷ (codes "lbu", form.Memory, operation.Load loaded.ByteUnsigned)
    ∷ (codes "lhu", form.Memory, operation.Load loaded.HalfWordUnsigned)
    ∷ (codes "lwr", form.Memory, operation.Load loaded.WordRight)
    ∷ (codes "sb", form.Memory, operation.Store stored.Byte)
    ∷ (codes "sh", form.Memory, operation.Store stored.HalfWord)
    ∷ (codes "swl", form.Memory, operation.Store stored.WordLeft)
    ∷ (codes "sw", form.Memory, operation.Store stored.Word)
    ∷ (codes "swr", form.Memory, operation.Store stored.WordRight)
    ∷ (codes "ll", form.Memory, operation.LoadLinked)
    ∷ (codes "sc", form.Memory, operation.StoreConditional)
    ∷ (codes ".org", form.Number, operation.Origin)
    ∷ (codes ".word", form.Word, operation.Word)
    ∷ []

-- the first row of a mnemonic
abbrev pub row_in : List Row → List ℕ → Option (Form × Operation)
row_in [] name = None
row_in (row ∷ rows) name = if bytes_eq row.0 name then Some (row.1, row.2) else row_in rows name

-- the row of a mnemonic, if it is one
unfoldable pub row_named : List ℕ → Option (Form × Operation)
row_named name = row_in mnemonics name

-- The instruction that a statement's mnemonic and operands name, and the word that it is.
use Rattle.std.specs.Prelude.{ℕ, ◌%◌, ◌^◌, Option, Some, None}
use Rattle.base_words.specs.declared.instr.Instr.{Instr}
use Rattle.base_words.specs.declared.instr.Instr.TheVariants.{Shift, ShiftVariable, JumpRegister, JumpAndLinkRegister, SystemCall, Break, Sync, MoveFrom, MoveTo, MulDiv, Alu, Trap, Branch, BranchZero, BranchZeroAndLink, TrapImmediate, Jump, JumpAndLink, AluImmediate, LoadUpper, Load, Store, LoadLinked, StoreConditional, MoveFromCp0, MoveToCp0, Cp0}
use Rattle.guest_asm.specs.declared.mnemonics.Operation.{Operation}
use Rattle.guest_asm.specs.declared.mnemonics.Operation.TheVariants as operation
use Rattle.guest_asm.specs.declared.fields.Fields.{Fields}
use Rattle.mips_isa.specs.Encoding.{encoded}

-- a value as an immediate
abbrev pub immediate : ℕ → ℕ
immediate value = value % 2 ^ 16

-- the instruction with these fields; the fields that no operand names are 0
abbrev pub instruction : Operation → Fields → ℕ → Option Instr
instruction (operation.Shift op) f n = Some (Shift op f.rt f.rd (n % 32))
instruction (operation.ShiftVariable op) f n = Some (ShiftVariable op f.rs f.rt f.rd)
instruction operation.JumpRegister f n = Some (JumpRegister f.rs)
instruction operation.JumpAndLinkRegister f n = Some (JumpAndLinkRegister f.rs f.rd)
instruction operation.SystemCall f n = Some (SystemCall 0)
instruction operation.Break f n = Some (Break 0)
instruction operation.Sync f n = Some Sync
instruction (operation.MoveFrom half) f n = Some (MoveFrom half f.rd)
instruction (operation.MoveTo half) f n = Some (MoveTo half f.rs)
instruction (operation.MulDiv op) f n = Some (MulDiv op f.rs f.rt)
instruction (operation.Alu op) f n = Some (Alu op f.rs f.rt f.rd)
instruction (operation.Trap cond) f n = Some (Trap cond f.rs f.rt 0)
instruction (operation.BranchZero cond untaken) f n = Some (BranchZero cond untaken f.rs (immediate n))
instruction (operation.BranchZeroAndLink cond untaken) f n = Some (BranchZeroAndLink cond untaken f.rs (immediate n))
instruction (operation.TrapImmediate cond) f n = Some (TrapImmediate cond f.rs (immediate n))
instruction operation.Jump f n = Some (Jump (n % 2 ^ 26))
instruction operation.JumpAndLink f n = Some (JumpAndLink (n % 2 ^ 26))
instruction (operation.Branch cond untaken) f n = Some (Branch cond untaken f.rs f.rt (immediate n))
instruction (operation.AluImmediate op) f n = Some (AluImmediate op f.rs f.rt (immediate n))
instruction operation.LoadUpper f n = Some (LoadUpper f.rt (immediate n))
instruction operation.MoveFromCp0 f n = Some (MoveFromCp0 f.rt f.rd)
instruction operation.MoveToCp0 f n = Some (MoveToCp0 f.rt f.rd)
instruction (operation.Cp0 op) f n = Some (Cp0 op)
instruction (operation.Load kind) f n = Some (Load kind f.rs f.rt (immediate n))
instruction (operation.Store kind) f n = Some (Store kind f.rs f.rt (immediate n))
instruction operation.LoadLinked f n = Some (LoadLinked f.rs f.rt (immediate n))
instruction operation.StoreConditional f n = Some (StoreConditional f.rs f.rt (immediate n))
instruction operation.Word f n = None
instruction operation.Origin f n = None

-- the word of an instruction, and of what is none its value
abbrev pub encoded_or : Option Instr → ℕ → ℕ
encoded_or None value = value
encoded_or (Some instr) value = encoded instr

unfoldable pub statement_word : Operation → Fields → ℕ → ℕ
statement_word operation f value = encoded_or (instruction operation f value) value

-- What the word of a row's instruction is decoded as.
use Rattle.std.specs.Prelude.{◌≡◌, ℕ, ◌<◌, List, Some, IfSome}
use Rattle.base_words.specs.OpcodeMap.{decoded}
use Rattle.mips_isa.specs.Encoding.{encoded}
use Rattle.guest_asm.specs.declared.mnemonics.Form.{Form}
use Rattle.guest_asm.specs.declared.mnemonics.Operation.{Operation}
use Rattle.guest_asm.specs.declared.fields.Fields.{Fields}
use Rattle.guest_asm.specs.Mnemonics.{row_named}
use Rattle.guest_asm.specs.Words.{instruction}

-- the fields are numbers of registers
abbrev pub AreRegisters : Fields → Type 0
AreRegisters fields = (fields.rs < 32) × (fields.rt < 32) × (fields.rd < 32)

-- where it stands for an instruction, the word with any fields is decoded as the instruction with these fields
abbrev pub IsDecoded : Operation → Type 0
IsDecoded operation = (fields : Fields) (value : ℕ) → AreRegisters fields → IfSome (instruction operation fields value) (λ instr. decoded (encoded instr) ≡ instr)

-- so it is for each mnemonic of the table
abbrev pub AllAreDecoded : Type 0
AllAreDecoded = (name : List ℕ) (form : Form) (operation : Operation) → row_named name ≡ Some (form, operation) → IsDecoded operation

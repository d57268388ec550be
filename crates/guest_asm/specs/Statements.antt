-- What a statement's operands name: registers, and a number with the way in which it is read.
use Rattle.std.specs.Prelude.{ℕ, ◌==◌, List, [], ◌∷◌, length, Option, Some, None, Result, Ok, Err, if◌then◌else◌}
use Rattle.std.specs.List.{list_all}
use Rattle.guest_asm.specs.declared.fault.AsmCause.{AsmCause}
use Rattle.guest_asm.specs.declared.fault.AsmCause.TheVariants as cause
use Rattle.guest_asm.specs.declared.operand.Operand.{Operand}
use Rattle.guest_asm.specs.declared.operand.Operand.TheVariants as operand
use Rattle.guest_asm.specs.declared.mnemonics.Form.{Form}
use Rattle.guest_asm.specs.declared.mnemonics.Form.TheVariants as form
use Rattle.guest_asm.specs.declared.mnemonics.Operation.{Operation}
use Rattle.guest_asm.specs.declared.fields.Reading.{Reading}
use Rattle.guest_asm.specs.declared.fields.Reading.TheVariants as reading
use Rattle.guest_asm.specs.declared.fields.Source.{Source}
use Rattle.guest_asm.specs.declared.fields.Source.TheVariants as source
use Rattle.guest_asm.specs.declared.fields.Given.{Given}
use Rattle.guest_asm.specs.declared.fields.Fields.{Fields}
use Rattle.guest_asm.specs.declared.statement.Statement.{Statement}
use Rattle.guest_asm.specs.Characters.{is_visible, is_word}
use Rattle.guest_asm.specs.Lines.{statement_of, mnemonic_of, operand_text}
use Rattle.guest_asm.specs.Mnemonics.{row_named}
use Rattle.guest_asm.specs.Operands.{Labels, operands_of}

-- an operand of a kind, if it is one
abbrev pub as_register : Operand → Option ℕ
as_register (operand.Register number) = Some number
as_register other = None

abbrev pub as_base : Operand → Option ℕ
as_base (operand.Based number register) = Some register
as_base other = None

abbrev pub read_as : Reading → Source → Option Given
read_as reading source = Some (record { reading = reading; source = source })

abbrev pub as_number : Reading → Operand → Option Given
as_number reading (operand.Number number) = read_as reading (source.Number number)
as_number reading other = None

abbrev pub as_target : Reading → Operand → Option Given
as_target reading (operand.Number number) = read_as reading (source.Number number)
as_target reading (operand.Name address) = read_as reading (source.Name address)
as_target reading other = None

abbrev pub as_low : Operand → Option Given
as_low (operand.Number number) = read_as reading.Unsigned (source.Number number)
as_low (operand.Low address) = read_as reading.LowHalf (source.Name address)
as_low other = None

abbrev pub as_high : Operand → Option Given
as_high (operand.Number number) = read_as reading.Unsigned (source.Number number)
as_high (operand.High address) = read_as reading.HighHalf (source.Name address)
as_high other = None

abbrev pub as_offset : Operand → Option Given
as_offset (operand.Based number register) = read_as reading.Signed (source.Number number)
as_offset other = None

-- a field that no operand names is 0
abbrev pub no_register : Option ℕ
no_register = Some 0

abbrev pub no_number : Option Given
no_number = read_as reading.Nothing (source.Name (Some 0))

-- the fields, where each of them is there: rs, rt, rd and the number
abbrev pub where_all : Option ℕ → Option ℕ → Option ℕ → Option Given → Option Fields
where_all (Some rs) (Some rt) (Some rd) (Some given) = Some (record { rs = rs; rt = rt; rd = rd; given = given })
where_all rs rt rd given = None

-- by the number of operands
abbrev pub of_none : Form → Option Fields
of_none form.Nothing = where_all no_register no_register no_register no_number
of_none other = None

abbrev pub of_one : Form → Operand → Option Fields
of_one form.Destination rd = where_all no_register no_register (as_register rd) no_number
of_one form.Source rs = where_all (as_register rs) no_register no_register no_number
of_one form.Target to = where_all no_register no_register no_register (as_target reading.Jump to)
of_one form.Number n = where_all no_register no_register no_register (as_number reading.Word n)
of_one form.Word e = where_all no_register no_register no_register (as_target reading.Word e)
of_one other a = None

abbrev pub of_two : Form → Operand → Operand → Option Fields
of_two form.DestinationSource rd rs = where_all (as_register rs) no_register (as_register rd) no_number
of_two form.Sources rs rt = where_all (as_register rs) (as_register rt) no_register no_number
of_two form.SourceNumber rs n = where_all (as_register rs) no_register no_register (as_number reading.Signed n)
of_two form.SourceTarget rs to = where_all (as_register rs) no_register no_register (as_target reading.Branch to)
of_two form.HighHalf rt n = where_all no_register (as_register rt) no_register (as_high n)
of_two form.Memory rt place = where_all (as_base place) (as_register rt) no_register (as_offset place)
of_two form.Coprocessor rt rd = where_all no_register (as_register rt) (as_register rd) no_number
of_two other a b = None

abbrev pub of_three : Form → Operand → Operand → Operand → Option Fields
of_three form.DestinationSources rd rs rt = where_all (as_register rs) (as_register rt) (as_register rd) no_number
of_three form.ShiftByRegister rd rt rs = where_all (as_register rs) (as_register rt) (as_register rd) no_number
of_three form.ShiftByAmount rd rt n = where_all no_register (as_register rt) (as_register rd) (as_number reading.Amount n)
of_three form.SourcesTarget rs rt to = where_all (as_register rs) (as_register rt) no_register (as_target reading.Branch to)
of_three form.SignedNumber rt rs n = where_all (as_register rs) (as_register rt) no_register (as_number reading.Signed n)
of_three form.UnsignedNumber rt rs n = where_all (as_register rs) (as_register rt) no_register (as_number reading.Unsigned n)
of_three form.LowHalf rt rs n = where_all (as_register rs) (as_register rt) no_register (as_low n)
of_three other a b c = None

-- the fields that the operands name, where they are as many and of the kinds that the mnemonic takes
abbrev pub fields_of : Form → List Operand → Option Fields
fields_of form [] = of_none form
fields_of form (a ∷ []) = of_one form a
fields_of form (a ∷ b ∷ []) = of_two form a b
fields_of form (a ∷ b ∷ c ∷ []) = of_three form a b c
fields_of form (a ∷ b ∷ c ∷ d ∷ more) = None

-- the statement, or `operands`
abbrev pub with_fields : Operation → Option Fields → Result (Option Statement) AsmCause
with_fields operation None = Err cause.Operands
with_fields operation (Some fields) = Ok (Some (record { operation = operation; fields = fields }))

-- the statement, or `mnemonic`
abbrev pub with_row : Option (Form × Operation) → List Operand → Result (Option Statement) AsmCause
with_row None operands = Err cause.Mnemonic
with_row (Some row) operands = with_fields row.1 (fields_of row.0 operands)

-- the statement, or `syntax`
abbrev pub with_operands : List ℕ → Option (List Operand) → Result (Option Statement) AsmCause
with_operands mnemonic None = Err cause.Syntax
with_operands mnemonic (Some operands) = if is_word mnemonic then with_row (row_named mnemonic) operands else Err cause.Syntax

abbrev pub read_statement : Labels → List ℕ → Result (Option Statement) AsmCause
read_statement labels text = if length text == 0 then Ok None else with_operands (mnemonic_of text) (operands_of labels (operand_text text))

-- the statement of a line, if it has one; or the first that holds of `syntax`, `mnemonic` and `operands`
unfoldable pub statement_on : Labels → List ℕ → Result (Option Statement) AsmCause
statement_on labels line = if list_all is_visible line then read_statement labels (statement_of line) else Err cause.Syntax

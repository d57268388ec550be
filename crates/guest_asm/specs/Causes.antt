-- Why a line is refused: the first that holds, in this order, of `syntax`, `mnemonic`, `operands`, `twice`, `label`, `range` and `place`.
use Rattle.std.specs.Prelude.{ℕ, ◌<◌, ◌+◌, nat_le, nat_lt, Bool, false, ◌&&◌, ◌≡◌, List, length, take, codes, Option, Some, None, Result, Ok, Err, if◌then◌else◌}
use Rattle.std.specs.List.{list_any}
use Rattle.guest_asm.specs.declared.fault.AsmCause.{AsmCause}
use Rattle.guest_asm.specs.declared.fault.AsmCause.TheVariants as cause
use Rattle.guest_asm.specs.declared.fault.AsmFault.{AsmFault}
use Rattle.guest_asm.specs.declared.fault.AsmFault.TheVariants as fault
use Rattle.guest_asm.specs.declared.fault.LineFault.{LineFault}
use Rattle.guest_asm.specs.declared.fault.LineFault.TheVariants as refused
use Rattle.guest_asm.specs.declared.labels.Site.{Site}
use Rattle.guest_asm.specs.Operands.{Labels}
use Rattle.guest_asm.specs.declared.mnemonics.Operation.{Operation}
use Rattle.guest_asm.specs.declared.mnemonics.Operation.TheVariants as operation
use Rattle.guest_asm.specs.declared.statement.Statement.{Statement}
use Rattle.guest_asm.specs.Lines.{label_of, line_at}
use Rattle.guest_asm.specs.Statements.{statement_on}
use Rattle.guest_asm.specs.Values.{value_of, is_unlabelled}
use Rattle.guest_asm.specs.Words.{statement_word}
use Rattle.guest_asm.specs.Addresses.{end, may_move, address_of, has_name, same_name, label_address}

-- the label stands on an earlier line
abbrev pub stands_before : List (List ℕ) → Option (List ℕ) → Bool
stands_before earlier None = false
stands_before earlier (Some name) = list_any (has_name name) earlier

-- the entry may not lie behind the last word
abbrev pub begins_outside : ℕ → Option (List ℕ) → Bool
begins_outside address label = same_name (codes "start") label && nat_le end address

-- the word that a line puts at its address, if it puts one there, or `place`
abbrev pub placed_word : ℕ → Operation → ℕ → ℕ → Result (Option ℕ) AsmCause
placed_word address operation.Origin word to = if may_move address to then Ok None else Err cause.Place
placed_word address operation word to = if nat_lt address end then Ok (Some word) else Err cause.Place

-- the same, or `range` where the number is out of its range
abbrev pub with_value : ℕ → Bool → Statement → Option ℕ → Result (Option ℕ) AsmCause
with_value address outside statement None = Err cause.Range
with_value address outside statement (Some value) =
    if outside then Err cause.Place else placed_word address statement.operation (statement_word statement.operation statement.fields value) value

-- the same, or `label`
abbrev pub with_label : ℕ → Bool → Option Statement → Result (Option ℕ) AsmCause
with_label address outside None = if outside then Err cause.Place else Ok None
with_label address outside (Some statement) =
    if is_unlabelled statement.fields.given.source then Err cause.Label
    else with_value address outside statement (value_of statement.fields.given address)

-- the same, or `twice`, or what was wrong with the statement
abbrev pub with_statement : ℕ → Bool → Bool → Result (Option Statement) AsmCause → Result (Option ℕ) AsmCause
with_statement address twice outside (Err cause) = Err cause
with_statement address twice outside (Ok statement) = if twice then Err cause.Twice else with_label address outside statement

-- what a line puts at its address, or why it is refused
unfoldable pub line_word : List (List ℕ) → ℕ → Result (Option ℕ) AsmCause
line_word lines i = with_statement
    (address_of lines i)
    (stands_before (take i lines) (label_of (line_at lines i)))
    (begins_outside (address_of lines i) (label_of (line_at lines i)))
    (statement_on (label_address lines) (line_at lines i))

-- the first line, from 0, that is refused, and why
pub record IsFirstFault (lines : List (List ℕ)) (line : ℕ) (cause : AsmCause) : Type 0 where
  pub within : line < length lines
  pub holds : line_word lines line ≡ Err cause
  pub least : (k : ℕ) → k < line → (refused : AsmCause) → ¬ (line_word lines k ≡ Err refused)

-- a site is on a line before this one
abbrev pub is_before : ℕ → Option Site → Bool
is_before number None = false
is_before number (Some site) = nat_lt site.line number

-- the same in the words of the code: by the number and the address of a line, and by where labels stand
abbrev pub stands_before_in : (List ℕ → Option Site) → Option (List ℕ) → ℕ → Bool
stands_before_in sites None number = false
stands_before_in sites (Some name) number = is_before number (sites name)

abbrev pub line_word_in : (List ℕ → Option Site) → Labels → ℕ → ℕ → List ℕ → Result (Option ℕ) AsmCause
line_word_in sites labels number address line = with_statement
    address
    (stands_before_in sites (label_of line) number)
    (begins_outside address (label_of line))
    (statement_on labels line)

-- a line's fault, as one of the text
abbrev pub fault_of : ℕ → LineFault → AsmFault
fault_of number (refused.Cause cause) = fault.Line (number + 1) cause
fault_of number refused.Memory = fault.Memory

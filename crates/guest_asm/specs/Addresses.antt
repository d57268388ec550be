-- The address of each line, which follows from the lines before it, and the addresses that labels stand for.
use Rattle.std.specs.Prelude.{ℕ, ◌+◌, ◌%◌, ◌==◌, nat_le, Bool, false, ◌&&◌, List, length, take, codes, Option, Some, None, Result, Ok, Err, option_map, unwrap_or, position, if◌then◌else◌}
use Rattle.std.specs.List.{fold}
use Rattle.std.specs.Str.{bytes_eq}
use Rattle.guest_asm.specs.declared.fault.AsmCause.{AsmCause}
use Rattle.guest_asm.specs.declared.statement.Statement.{Statement}
use Rattle.guest_asm.specs.Lines.{label_of, statement_of, mnemonic_of}
use Rattle.guest_asm.specs.Operands.{Labels, no_labels}
use Rattle.guest_asm.specs.Statements.{statement_on}
use Rattle.guest_asm.specs.Values.{value_of}

-- the address of the first line, and the one behind the last word that there is room for
abbrev pub start : ℕ
start = 0xC000_0000

abbrev pub end : ℕ
end = 0xC001_0000

-- the statement moves the address: its mnemonic is .org
abbrev pub is_origin_in : List ℕ → Bool
is_origin_in statement = bytes_eq (mnemonic_of statement) (codes ".org")

-- what such a statement asks for, which names no labels
abbrev pub origin_on : List ℕ → Result (Option Statement) AsmCause
origin_on line = statement_on no_labels line

-- an address may move on to a multiple of 4, up to the end
abbrev pub may_move : ℕ → ℕ → Bool
may_move address to = to % 4 == 0 && (nat_le address to && nat_le to end)

-- the address that is asked for, unless it is refused
abbrev pub moved : ℕ → Option ℕ → ℕ
moved address None = address
moved address (Some to) = if may_move address to then to else address

abbrev pub moved_by : ℕ → Result (Option Statement) AsmCause → ℕ
moved_by address (Err cause) = address
moved_by address (Ok None) = address
moved_by address (Ok (Some statement)) = moved address (value_of statement.fields.given address)

-- the address behind a line: a statement takes four bytes, well formed or not; a line without one takes none, and .org moves the address
unfoldable pub behind : ℕ → List ℕ → ℕ
behind address line =
    if length (statement_of line) == 0 then address
    else if is_origin_in (statement_of line) then moved_by address (origin_on line)
    else address + 4

-- the address of a line
abbrev pub address_of : List (List ℕ) → ℕ → ℕ
address_of lines i = fold behind start (take i lines)

-- a line has this label
abbrev pub same_name : List ℕ → Option (List ℕ) → Bool
same_name name None = false
same_name name (Some label) = bytes_eq label name

abbrev pub has_name : List ℕ → List ℕ → Bool
has_name name line = same_name name (label_of line)

-- a label stands for the address of the first line that has it
abbrev pub label_line : List (List ℕ) → List ℕ → Option ℕ
label_line lines name = position (has_name name) lines

abbrev pub label_address : List (List ℕ) → Labels
label_address lines name = option_map (λ i. address_of lines i) (label_line lines name)

-- the run begins at the label `start`, where there is one
abbrev pub entry_of : List (List ℕ) → ℕ
entry_of lines = unwrap_or (label_address lines (codes "start")) start

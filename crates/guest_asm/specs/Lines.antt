-- A text's lines, and the parts of a line: a label, a statement and a comment, each of which may be absent.
use Rattle.std.specs.Prelude.{ℕ, ◌==◌, nat_lt, Bool, ◌&&◌, List, length, drop, slice_index_or, [], Option, Some, None, if◌then◌else◌}
use Rattle.std.specs.List.{before_first, after_first, position_or_len, slice_split}
use Rattle.std.specs.Char.{is_ascii_whitespace}
use Rattle.guest_asm.specs.Characters.{is_name, trimmed}

-- lines end at a line feed or with the text
abbrev pub is_line_feed : ℕ → Bool
is_line_feed byte = byte == 10

unfoldable pub lines_of : List ℕ → List (List ℕ)
lines_of text = slice_split is_line_feed text

-- what stands before the comment, without blanks at its ends
abbrev pub is_number_sign : ℕ → Bool
is_number_sign byte = byte == 35

unfoldable pub code_of : List ℕ → List ℕ
code_of line = trimmed (before_first is_number_sign line)

-- a label is a name directly before a colon
abbrev pub is_colon : ℕ → Bool
is_colon byte = byte == 58

abbrev pub has_label : List ℕ → Bool
has_label code = nat_lt (position_or_len is_colon code) (length code) && is_name (before_first is_colon code)

-- how long the label is, if there is one
abbrev pub label_length : List ℕ → Option ℕ
label_length code = if has_label code then Some (position_or_len is_colon code) else None

abbrev pub label_in : List ℕ → Option (List ℕ)
label_in code = if has_label code then Some (before_first is_colon code) else None

abbrev pub statement_in : List ℕ → List ℕ
statement_in code = if has_label code then trimmed (after_first is_colon code) else code

-- the label and the statement of a line; without a statement its text is empty
abbrev pub label_of : List ℕ → Option (List ℕ)
label_of line = label_in (code_of line)

abbrev pub statement_of : List ℕ → List ℕ
statement_of line = statement_in (code_of line)

-- a statement's mnemonic, and what stands behind it
abbrev pub mnemonic_of : List ℕ → List ℕ
mnemonic_of statement = before_first is_ascii_whitespace statement

abbrev pub operand_text : List ℕ → List ℕ
operand_text statement = trimmed (drop (position_or_len is_ascii_whitespace statement) statement)

-- the line of a number from 0
abbrev pub line_at : List (List ℕ) → ℕ → List ℕ
line_at lines i = slice_index_or lines i []

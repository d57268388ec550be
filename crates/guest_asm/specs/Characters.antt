-- The characters of a line.
use Rattle.std.specs.Prelude.{ℕ, ◌==◌, nat_le, Bool, false, ◌&&◌, ◌||◌, List, [], ◌∷◌, length, drop, take, ◌-◌}
use Rattle.std.specs.List.{list_all, prefix_len, suffix_len}
use Rattle.std.specs.Str.{bytes_eq}
use Rattle.std.specs.Char.{is_ascii_whitespace, is_ascii_alphabetic, is_ascii_alphanumeric}

-- a tab, or one of the characters from the space to the tilde; a line with another byte is refused
abbrev pub is_visible : ℕ → Bool
is_visible byte = byte == 9 || (nat_le 32 byte && nat_le byte 126)

-- a text without the blanks at its beginning, at its end, and at both
abbrev pub trimmed_start : List ℕ → List ℕ
trimmed_start text = drop (prefix_len is_ascii_whitespace text) text

abbrev pub trimmed_end : List ℕ → List ℕ
trimmed_end text = take (length text - suffix_len is_ascii_whitespace text) text

abbrev pub trimmed : List ℕ → List ℕ
trimmed text = trimmed_end (trimmed_start text)

-- a text begins with another one
abbrev pub begins : List ℕ → List ℕ → Bool
begins prefix text = bytes_eq (take (length prefix) text) prefix

-- what a name begins with, and what it goes on with: letters, digits and the underscore
abbrev pub is_name_start : ℕ → Bool
is_name_start byte = is_ascii_alphabetic byte || byte == 95

abbrev pub is_name_part : ℕ → Bool
is_name_part byte = is_ascii_alphanumeric byte || byte == 95

-- a name has at most 31 characters
abbrev pub is_name : List ℕ → Bool
is_name [] = false
is_name (first ∷ rest) = is_name_start first && (list_all is_name_part rest && nat_le (length rest) 30)

-- what stands where a mnemonic stands may have points, and any length
abbrev pub is_word_start : ℕ → Bool
is_word_start byte = is_name_start byte || byte == 46

abbrev pub is_word_part : ℕ → Bool
is_word_part byte = is_name_part byte || byte == 46

abbrev pub is_word : List ℕ → Bool
is_word [] = false
is_word (first ∷ rest) = is_word_start first && list_all is_word_part rest

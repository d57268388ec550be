-- The printed text of what is made: the description, and each file in hexadecimal.
use Rattle.std.specs.Prelude.{ℕ, ◌+◌, ◌*◌, ◌/◌, List, ◌++◌, length, map, take, drop, codes, decimal}
use Rattle.std.specs.List.{range_with_len}
use Rattle.hex.specs.Hex.{encode_lower}
use Rattle.outside_io.specs.declared.memory.HeldFile.{HeldFile}
use Rattle.guest_gen.specs.declared.made.Made.{Made}
use Rattle.run_report.specs.Report.{line_end, in_order}

-- 32 bytes each, of which the last may be shorter
abbrev pub row_of : List ℕ → ℕ → List ℕ
row_of bytes number = take 32 (drop (32 * number) bytes)

abbrev pub rows_of : List ℕ → List (List ℕ)
rows_of bytes = map (row_of bytes) (range_with_len 0 ((length bytes + 31) / 32))

-- a row in lower-case hexadecimal
abbrev pub row_text : List ℕ → List ℕ
row_text row = encode_lower row ++ line_end

-- the line before a file's bytes: its name, and how many bytes it has
abbrev pub file_line : List ℕ → ℕ → List ℕ
file_line name count = codes "file " ++ (name ++ (codes " " ++ (decimal count ++ line_end)))

abbrev pub bytes_text : List ℕ → List ℕ
bytes_text bytes = in_order row_text (rows_of bytes)

abbrev pub file_text : HeldFile → List ℕ
file_text file = file_line file.name (length file.bytes) ++ bytes_text file.bytes

abbrev pub made_text : Made → List ℕ
made_text made = made.description ++ in_order file_text made.files

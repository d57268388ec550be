-- The printed listing: each word at its address, and the image in hexadecimal.
use Rattle.std.specs.Prelude.{ℕ, ◌+◌, ◌*◌, ◌/◌, List, [], ◌∷◌, ◌++◌, length, take, drop, codes, decimal}
use Rattle.std.specs.List.{flat_map, range_with_len}
use Rattle.byteorder.specs.Endian.{big_bytes}
use Rattle.hex.specs.Hex.{encode_lower}
use Rattle.guest_asm.specs.declared.assembled.Placed.{Placed}
use Rattle.guest_asm.specs.Assembly.{Assembly}

-- a line ends with a line feed
abbrev pub line_end : List ℕ
line_end = 10 ∷ []

-- the line of a word: its address and the word, each in eight lower-case hexadecimal digits
abbrev pub word_line : Placed → List ℕ
word_line placed = encode_lower (big_bytes 4 placed.address) ++ (codes " " ++ (encode_lower (big_bytes 4 placed.word) ++ line_end))

-- the line before the image's bytes
abbrev pub file_line : ℕ → List ℕ
file_line count = codes "file image.elf " ++ (decimal count ++ line_end)

-- 32 bytes a line, of which the last may be shorter
abbrev pub row_of : List ℕ → ℕ → List ℕ
row_of bytes number = take 32 (drop (32 * number) bytes)

abbrev pub row_line : List ℕ → ℕ → List ℕ
row_line bytes number = encode_lower (row_of bytes number) ++ line_end

abbrev pub rows_of : List ℕ → List ℕ
rows_of bytes = flat_map (row_line bytes) (range_with_len 0 ((length bytes + 31) / 32))

unfoldable pub listing_of : Assembly → List ℕ
listing_of assembly = flat_map word_line assembly.words ++ (file_line (length assembly.image) ++ rows_of assembly.image)

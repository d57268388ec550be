-- The image: an executable ELF file (ELF specification, "ELF Header" and "Program Header") of one segment, which begins at C0000000.
use Rattle.std.specs.Prelude.{ℕ, ◌+◌, ◌-◌, ◌≤◌, List, [], ◌∷◌, ◌++◌, length, replicate}
use Rattle.std.specs.List.{flat_map}
use Rattle.byteorder.specs.Endian.{big_bytes}
use Rattle.guest_asm.specs.declared.assembled.Placed.{Placed}
use Rattle.guest_asm.specs.Addresses.{start}

-- the bytes of half words and of words, the most significant first
abbrev pub halves : List ℕ → List ℕ
halves hs = flat_map (big_bytes 2) hs

abbrev pub words : List ℕ → List ℕ
words ws = flat_map (big_bytes 4) ws

-- 7F and the letters ELF, 32-bit objects, the most significant byte first, the one version
abbrev pub identification : List ℕ
identification = 0x7F ∷ 0x45 ∷ 0x4C ∷ 0x46 ∷ 1 ∷ 2 ∷ 1 ∷ replicate 9 0

-- an executable for MIPS; one program header of 32 bytes follows, and no section headers
abbrev pub file_header : ℕ → List ℕ
file_header entry =
    identification
    ++ (halves (2 ∷ 8 ∷ [])
    ++ (words (1 ∷ entry ∷ 52 ∷ 0 ∷ 0 ∷ [])
    ++ halves (52 ∷ 32 ∷ 1 ∷ 0 ∷ 0 ∷ 0 ∷ [])))

-- the segment: so many bytes behind the headers, from C0000000 on
abbrev pub program_header : ℕ → List ℕ
program_header count = words (1 ∷ 84 ∷ start ∷ 0 ∷ count ∷ count ∷ 7 ∷ 4096 ∷ [])

-- the bytes from an address up to the end of the last word: zeros up to the first word, the word, and what stands behind it
abbrev pub bytes_from : ℕ → List Placed → List ℕ
bytes_from address [] = []
bytes_from address (placed ∷ behind) =
    replicate (placed.address - address) 0 ++ (big_bytes 4 placed.word ++ bytes_from (placed.address + 4) behind)

-- the image of words that stand in order of their addresses
unfoldable pub image_of : ℕ → List Placed → List ℕ
image_of entry placed = file_header entry ++ (program_header (length (bytes_from start placed)) ++ bytes_from start placed)

-- bytes with zeros up to so many, and then a word
abbrev pub extended : List ℕ → ℕ → ℕ → List ℕ
extended bytes count word = bytes ++ (replicate (count - length bytes) 0 ++ big_bytes 4 word)

-- words in order of their addresses, from one on
abbrev pub AreInOrder : ℕ → List Placed → Type 0
AreInOrder address [] = Unit {0}
AreInOrder address (placed ∷ behind) = (address ≤ placed.address) × AreInOrder (placed.address + 4) behind

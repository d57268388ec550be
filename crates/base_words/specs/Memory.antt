-- A guest's memory: its bytes in order, with words most significant byte first
-- (MIPS R4000 User's Manual, "CPU Data Formats and Addressing", big-endian).
use Rattle.std.specs.Prelude.{ℕ, ◌+◌, List, ◌++◌, take, drop}
use Rattle.byteorder.specs.Endian.{big_from, big_bytes}

-- the bytes of a memory, of a page or of a file
abbrev pub Memory : Type 0
Memory = List ℕ

-- the word in the four bytes from an offset, the most significant first
abbrev pub word_at : Memory → ℕ → ℕ
word_at memory offset = big_from offset 4 memory

-- the memory with another word in the four bytes from an offset
abbrev pub with_word : Memory → ℕ → ℕ → Memory
with_word memory offset word = take offset memory ++ (big_bytes 4 word ++ drop (offset + 4) memory)

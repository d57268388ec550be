-- Parts of words in memory (MIPS R4000 User's Manual, appendix A, "Load and Store Instructions", big-endian). A byte's place
-- in its word is counted from the most significant byte.
use Rattle.std.specs.Prelude.{ℕ, ◌+◌, ◌-◌, ◌*◌, ◌/◌, ◌%◌, ◌^◌, nat_lt, if◌then◌else◌}
use Rattle.base_words.specs.declared.instr.LoadKind.{LoadKind}
use Rattle.base_words.specs.declared.instr.LoadKind.TheVariants.{Byte, ByteUnsigned, HalfWord, HalfWordUnsigned, Word, WordLeft, WordRight}
use Rattle.base_words.specs.declared.instr.StoreKind.{StoreKind}
use Rattle.base_words.specs.declared.instr.StoreKind.TheVariants as stored
use Rattle.base_words.specs.Fields.{sign_extended}

-- the byte at a place of a word, and the half word that begins there
abbrev pub byte_of : ℕ → ℕ → ℕ
byte_of word place = word / 2 ^ (24 - 8 * place) % 2 ^ 8

abbrev pub half_of : ℕ → ℕ → ℕ
half_of word place = word / 2 ^ (16 - 8 * place) % 2 ^ 16

-- a byte with its sign in the bits above
abbrev pub byte_extended : ℕ → ℕ
byte_extended byte = if nat_lt byte (2 ^ 7) then byte else byte + (2 ^ 32 - 2 ^ 8)

-- the word from a place on fills the register from the left; the rest of the register stays
abbrev pub merge_left : ℕ → ℕ → ℕ → ℕ
merge_left word register place = word * 2 ^ (8 * place) % 2 ^ 32 + register % 2 ^ (8 * place)

-- the word up to a place fills the register from the right; the rest of the register stays
abbrev pub merge_right : ℕ → ℕ → ℕ → ℕ
merge_right word register place = register - register % 2 ^ (8 * (place + 1)) + word / 2 ^ (24 - 8 * place)

-- the word from a place on is filled from the register's left; the rest of the word stays
abbrev pub split_left : ℕ → ℕ → ℕ → ℕ
split_left word register place = word - word % 2 ^ (32 - 8 * place) + register / 2 ^ (8 * place)

-- the word up to a place is filled from the register's right; the rest of the word stays
abbrev pub split_right : ℕ → ℕ → ℕ → ℕ
split_right word register place = word % 2 ^ (24 - 8 * place) + register % 2 ^ (8 * (place + 1)) * 2 ^ (24 - 8 * place)

-- what a load makes of the word that has the addressed byte at a place, and of the register's old value
abbrev pub loaded_value : LoadKind → ℕ → ℕ → ℕ → ℕ
loaded_value Byte word register place = byte_extended (byte_of word place)
loaded_value ByteUnsigned word register place = byte_of word place
loaded_value HalfWord word register place = sign_extended (half_of word place)
loaded_value HalfWordUnsigned word register place = half_of word place
loaded_value Word word register place = word
loaded_value WordLeft word register place = merge_left word register place
loaded_value WordRight word register place = merge_right word register place

-- what a store makes of the word that has the addressed byte at a place, and of the register
abbrev pub stored_word : StoreKind → ℕ → ℕ → ℕ → ℕ
stored_word stored.Byte word register place = word - byte_of word place * 2 ^ (24 - 8 * place) + register % 2 ^ 8 * 2 ^ (24 - 8 * place)
stored_word stored.HalfWord word register place = word - half_of word place * 2 ^ (16 - 8 * place) + register % 2 ^ 16 * 2 ^ (16 - 8 * place)
stored_word stored.Word word register place = register
stored_word stored.WordLeft word register place = split_left word register place
stored_word stored.WordRight word register place = split_right word register place

-- the multiple that the address of a load or a store has to be
abbrev pub load_unit : LoadKind → ℕ
load_unit Byte = 1
load_unit ByteUnsigned = 1
load_unit HalfWord = 2
load_unit HalfWordUnsigned = 2
load_unit Word = 4
load_unit WordLeft = 1
load_unit WordRight = 1

abbrev pub store_unit : StoreKind → ℕ
store_unit stored.Byte = 1
store_unit stored.HalfWord = 2
store_unit stored.Word = 4
store_unit stored.WordLeft = 1
store_unit stored.WordRight = 1

-- Fields of a word.
use Rattle.std.specs.Prelude.{ℕ, ◌+◌, ◌-◌, ◌/◌, ◌%◌, ◌^◌, ◌==◌, Bool, true, false}

-- bits high to low of a word
abbrev pub bits : ℕ → ℕ → ℕ → ℕ
bits high low word = word / 2 ^ low % 2 ^ (high + 1 - low)

-- one bit of a word, as a flag
abbrev pub flag : ℕ → ℕ → Bool
flag n word = word / 2 ^ n % 2 == 1

abbrev pub bit : Bool → ℕ
bit true = 1
bit false = 0

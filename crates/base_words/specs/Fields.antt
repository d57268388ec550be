-- The fields of an instruction word (MIPS R4000 User's Manual, appendix A, "Instruction Classes and Formats").
use Rattle.std.specs.Prelude.{ℕ, ◌+◌, ◌-◌, ◌/◌, ◌%◌, ◌^◌, nat_lt, if◌then◌else◌}

-- bits 31 to 26
abbrev pub opcode : ℕ → ℕ
opcode word = word / 2 ^ 26

-- bits 25 to 21, 20 to 16, 15 to 11, 10 to 6
abbrev pub rs : ℕ → ℕ
rs word = word / 2 ^ 21 % 32

abbrev pub rt : ℕ → ℕ
rt word = word / 2 ^ 16 % 32

abbrev pub rd : ℕ → ℕ
rd word = word / 2 ^ 11 % 32

abbrev pub sa : ℕ → ℕ
sa word = word / 2 ^ 6 % 32

-- bits 5 to 0
abbrev pub function : ℕ → ℕ
function word = word % 64

-- bits 15 to 0, 25 to 0, 25 to 6, 15 to 6
abbrev pub immediate : ℕ → ℕ
immediate word = word % 2 ^ 16

abbrev pub jump_index : ℕ → ℕ
jump_index word = word % 2 ^ 26

abbrev pub system_code : ℕ → ℕ
system_code word = word / 2 ^ 6 % 2 ^ 20

abbrev pub trap_code : ℕ → ℕ
trap_code word = word / 2 ^ 6 % 2 ^ 10

-- an immediate with its sign in the upper half
abbrev pub sign_extended : ℕ → ℕ
sign_extended half = if nat_lt half (2 ^ 15) then half else half + (2 ^ 32 - 2 ^ 16)

-- the sum of two words, modulo 2^32
abbrev pub sum : ℕ → ℕ → ℕ
sum a b = (a + b) % 2 ^ 32

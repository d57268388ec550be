-- Arithmetic and logic on words (MIPS R4000 User's Manual, appendix A, "Computational Instructions").
use Rattle.std.specs.Prelude.{ℕ, ◌+◌, ◌-◌, ◌*◌, ◌/◌, ◌%◌, ◌^◌, nat_lt, nat_le, ◌==◌, if◌then◌else◌, Bool, not, ◌&&◌, Option, Some, None, ℤ, pos, negsuc, ◌+ℤ◌, ◌-ℤ◌, ◌*ℤ◌, int_lt, int_le, int_div, int_rem, bit_and, bit_or, bit_xor}
use Rattle.std.specs.Int.{w32, w64, cast_signed, cast_unsigned, int_shr}
use Rattle.base_words.specs.declared.effect.HiLo.{HiLo}
use Rattle.base_words.specs.declared.instr.AluOp.{AluOp}
use Rattle.base_words.specs.declared.instr.AluOp.TheVariants.{Add, AddUnsigned, Subtract, SubtractUnsigned, And, Or, Xor, Nor, SetLess, SetLessUnsigned}
use Rattle.base_words.specs.declared.instr.ShiftOp.{ShiftOp}
use Rattle.base_words.specs.declared.instr.ShiftOp.TheVariants.{Left, RightLogical, RightArithmetic}
use Rattle.base_words.specs.declared.instr.MulOp.{MulOp}
use Rattle.base_words.specs.declared.instr.MulOp.TheVariants.{Multiply, MultiplyUnsigned, Divide, DivideUnsigned}
use Rattle.base_words.specs.declared.instr.Cond.{Cond}
use Rattle.base_words.specs.declared.instr.Cond.TheVariants.{Equal, NotEqual, Less, LessUnsigned, LessOrEqual, Greater, GreaterOrEqual, GreaterOrEqualUnsigned}
use Rattle.base_words.specs.Fields.{sum}

-- a word as a signed number
abbrev pub signed : ℕ → ℤ
signed word = cast_signed w32 word

-- the difference of two words, modulo 2^32
abbrev pub difference : ℕ → ℕ → ℕ
difference a b = (a + (2 ^ 32 - b)) % 2 ^ 32

-- a signed number fits 32 bits
abbrev pub fits : ℤ → Bool
fits z = int_le (negsuc (2 ^ 31 - 1)) z && int_lt z (pos (2 ^ 31))

-- what an operation computes; none where the signed result doesn't fit
abbrev pub alu : AluOp → ℕ → ℕ → Option ℕ
alu Add a b = if fits (signed a +ℤ signed b) then Some (sum a b) else None
alu AddUnsigned a b = Some (sum a b)
alu Subtract a b = if fits (signed a -ℤ signed b) then Some (difference a b) else None
alu SubtractUnsigned a b = Some (difference a b)
alu And a b = Some (bit_and a b)
alu Or a b = Some (bit_or a b)
alu Xor a b = Some (bit_xor a b)
alu Nor a b = Some (2 ^ 32 - 1 - bit_or a b)
alu SetLess a b = Some (if int_lt (signed a) (signed b) then 1 else 0)
alu SetLessUnsigned a b = Some (if nat_lt a b then 1 else 0)

-- a word shifted by so many bits
abbrev pub shift : ShiftOp → ℕ → ℕ → ℕ
shift Left word amount = word * 2 ^ amount % 2 ^ 32
shift RightLogical word amount = word / 2 ^ amount
shift RightArithmetic word amount = cast_unsigned w32 (int_shr (signed word) amount)

-- a number of 64 bits in two halves
abbrev pub halves : ℕ → HiLo
halves n = record { hi = n / 2 ^ 32; lo = n % 2 ^ 32 }

-- the product, or the quotient rounded to zero and the remainder with the dividend's sign
abbrev pub mul_div : MulOp → ℕ → ℕ → HiLo
mul_div Multiply a b = halves (cast_unsigned w64 (signed a *ℤ signed b))
mul_div MultiplyUnsigned a b = halves (a * b)
mul_div Divide a b =
    if b == 0
    then record { hi = a; lo = 2 ^ 32 - 1 }
    else record { hi = cast_unsigned w32 (int_rem (signed a) (signed b)); lo = cast_unsigned w32 (int_div (signed a) (signed b)) }
mul_div DivideUnsigned a b = if b == 0 then record { hi = a; lo = 2 ^ 32 - 1 } else record { hi = a % b; lo = a / b }

-- a condition of two words
abbrev pub holds : Cond → ℕ → ℕ → Bool
holds Equal a b = a == b
holds NotEqual a b = not (a == b)
holds Less a b = int_lt (signed a) (signed b)
holds LessUnsigned a b = nat_lt a b
holds LessOrEqual a b = int_le (signed a) (signed b)
holds Greater a b = int_lt (signed b) (signed a)
holds GreaterOrEqual a b = int_le (signed b) (signed a)
holds GreaterOrEqualUnsigned a b = nat_le b a

-- Numbers and registers, as a line writes them.
use Rattle.std.specs.Prelude.{ℕ, ◌+◌, ◌-◌, ◌*◌, ◌%◌, ◌^◌, ◌==◌, nat_le, nat_lt, not, Bool, true, false, ◌&&◌, List, [], ◌∷◌, length, drop, codes, Option, Some, None, if◌then◌else◌}
use Rattle.std.specs.List.{list_all, fold}
use Rattle.std.specs.Char.{is_ascii_digit, is_ascii_hexdigit}
use Rattle.guest_asm.specs.declared.number.Number.{Number}
use Rattle.guest_asm.specs.Characters.{begins}

-- what a digit counts: 0 to 9, and a to f or A to F for 10 to 15
abbrev pub digit_value : ℕ → ℕ
digit_value byte = if is_ascii_digit byte then byte - 48 else (if nat_le 97 byte then byte - 87 else byte - 55)

-- the number that digits write
abbrev pub digits_value : ℕ → List ℕ → ℕ
digits_value radix digits = fold (λ number byte. radix * number + digit_value byte) 0 digits

-- the number of a sign and a magnitude, where it is one from -2147483648 to 4294967295; no statement takes another
abbrev pub signed : Bool → ℕ → Option Number
signed negative magnitude =
    if nat_le magnitude (if negative then 2 ^ 31 else 2 ^ 32 - 1)
    then Some (record { negative = negative && not (magnitude == 0); magnitude = magnitude })
    else None

-- a number, where a word holds it; one more digit, and a sign, where it does
abbrev pub held : ℕ → Option ℕ
held number = if nat_lt number (2 ^ 32) then Some number else None

abbrev pub more : Option ℕ → ℕ → ℕ → Option ℕ
more None radix digit = None
more (Some number) radix digit = held (radix * number + digit)

abbrev pub signed_held : Bool → Option ℕ → Option Number
signed_held negative None = None
signed_held negative (Some magnitude) = signed negative magnitude

-- decimal digits, at least one
abbrev pub decimal : Bool → List ℕ → Option (Option Number)
decimal negative digits =
    if not (length digits == 0) && list_all is_ascii_digit digits then Some (signed negative (digits_value 10 digits)) else None

-- hexadecimal digits, 1 to 8
abbrev pub hexadecimal : List ℕ → Option (Option Number)
hexadecimal digits =
    if nat_le 1 (length digits) && (nat_le (length digits) 8 && list_all is_ascii_hexdigit digits) then Some (signed false (digits_value 16 digits)) else None

-- the number that a text writes, if it writes one
unfoldable pub number_of : List ℕ → Option (Option Number)
number_of text =
    if begins (codes "0x") text then hexadecimal (drop 2 text)
    else if begins (codes "-") text then decimal true (drop 1 text)
    else decimal false text

-- a number as a word: modulo 2^32
abbrev pub word_of : Number → ℕ
word_of number = if number.negative then (2 ^ 32 - number.magnitude) % 2 ^ 32 else number.magnitude

-- the register of one or two digits, from 0 to 31, without a zero in front
abbrev pub one_digit : ℕ → Option ℕ
one_digit ones = if is_ascii_digit ones then Some (ones - 48) else None

abbrev pub two_digits : ℕ → ℕ → Option ℕ
two_digits tens ones =
    if (is_ascii_digit tens && is_ascii_digit ones) && (nat_lt 48 tens && nat_lt ((tens - 48) * 10 + (ones - 48)) 32) then Some ((tens - 48) * 10 + (ones - 48)) else None

abbrev pub register_number : List ℕ → Option ℕ
register_number [] = None
register_number (ones ∷ []) = one_digit ones
register_number (tens ∷ ones ∷ []) = two_digits tens ones
register_number (a ∷ b ∷ c ∷ rest) = None

-- the register that a text names, as $31
unfoldable pub register_of : List ℕ → Option ℕ
register_of text = if begins (codes "$") text then register_number (drop 1 text) else None

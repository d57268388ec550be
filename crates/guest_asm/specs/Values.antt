-- The value of a statement's number, where it is in the range of the way in which it is read.
use Rattle.std.specs.Prelude.{ℕ, ◌+◌, ◌-◌, ◌/◌, ◌%◌, ◌^◌, ◌==◌, nat_lt, nat_le, Bool, true, false, not, ◌&&◌, Option, Some, None, if◌then◌else◌}
use Rattle.guest_asm.specs.declared.number.Number.{Number}
use Rattle.guest_asm.specs.declared.fields.Reading.{Reading}
use Rattle.guest_asm.specs.declared.fields.Reading.TheVariants as reading
use Rattle.guest_asm.specs.declared.fields.Source.{Source}
use Rattle.guest_asm.specs.declared.fields.Source.TheVariants as source
use Rattle.guest_asm.specs.declared.fields.Given.{Given}
use Rattle.guest_asm.specs.Numbers.{word_of}

-- a value, where it is in range
abbrev pub where_in : Bool → ℕ → Option ℕ
where_in true value = Some value
where_in false value = None

-- from 0 to 31
abbrev pub amount : Number → Option ℕ
amount n = where_in (not n.negative && nat_lt n.magnitude 32) n.magnitude

-- from 0 to 65535
abbrev pub unsigned : Number → Option ℕ
unsigned n = where_in (not n.negative && nat_lt n.magnitude (2 ^ 16)) n.magnitude

-- 16 bits of a number below zero, and of one from zero on
abbrev pub below_zero : ℕ → Option ℕ
below_zero magnitude = where_in (nat_le magnitude (2 ^ 15)) ((2 ^ 16 - magnitude) % 2 ^ 16)

abbrev pub from_zero : ℕ → Option ℕ
from_zero magnitude = where_in (nat_lt magnitude (2 ^ 15)) magnitude

-- from -32768 to 32767
abbrev pub half : Number → Option ℕ
half n = if n.negative then below_zero n.magnitude else from_zero n.magnitude

-- the number of words from the address behind the branch to the target, which is a multiple of 4 away
abbrev pub distance : ℕ → ℕ → Option ℕ
distance behind to = if nat_le behind to then from_zero ((to - behind) / 4) else below_zero ((behind - to) / 4)

abbrev pub branch : ℕ → ℕ → Option ℕ
branch address to = if to % 4 == 0 then distance (address + 4) to else None

-- the words of a target with the bits 31 to 28 of the address behind the jump
abbrev pub jump : ℕ → ℕ → Option ℕ
jump address to = where_in (to % 4 == 0 && (to / 2 ^ 28 == (address + 4) / 2 ^ 28)) (to / 4 % 2 ^ 26)

-- the value of a number at an address
abbrev pub number_value : Reading → ℕ → Number → Option ℕ
number_value reading.Nothing address n = Some 0
number_value reading.Amount address n = amount n
number_value reading.Signed address n = half n
number_value reading.Unsigned address n = unsigned n
number_value reading.LowHalf address n = Some (word_of n % 2 ^ 16)
number_value reading.HighHalf address n = Some (word_of n / 2 ^ 16)
number_value reading.Branch address n = branch address (word_of n)
number_value reading.Jump address n = jump address (word_of n)
number_value reading.Word address n = Some (word_of n)

-- what a label stands for is a number
abbrev pub at_label : ℕ → Number
at_label address = record { negative = false; magnitude = address }

-- the number that is given: None where it is out of the range of numbers, or where no line has the label
abbrev pub number_in : Source → Option Number
number_in (source.Number number) = number
number_in (source.Name None) = None
number_in (source.Name (Some label)) = Some (at_label label)

abbrev pub number_value_in : Reading → ℕ → Option Number → Option ℕ
number_value_in reading address None = None
number_value_in reading address (Some number) = number_value reading address number

-- the value of what is given, where it is in range
unfoldable pub value_of : Given → ℕ → Option ℕ
value_of given address = number_value_in given.reading address (number_in given.source)

-- a name is used that is no label
abbrev pub is_unlabelled : Source → Bool
is_unlabelled (source.Number number) = false
is_unlabelled (source.Name None) = true
is_unlabelled (source.Name (Some label)) = false

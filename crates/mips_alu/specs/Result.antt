-- A result of 32 bits, or none.
use Rattle.std.specs.Prelude.{ℕ, Option, Some, None}
use Rattle.mips_alu.specs.declared.arithmetic.AluOut.{AluOut}
use Rattle.mips_alu.specs.declared.arithmetic.AluOut.TheVariants.{Value, Overflow}

-- the value, or none where it doesn't fit
abbrev pub option_of : AluOut → Option ℕ
option_of (Value value) = Some value
option_of Overflow = None

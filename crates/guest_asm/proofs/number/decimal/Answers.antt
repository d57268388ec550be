use Rattle.std.proofs.Common.{rules}
use Rattle.guest_asm.proofs.Digits.{hexadecimal_too}
use Rattle.guest_asm.proofs.number.decimal.Goals as goal

pub digits_value-requires-clause-digits : goal.digits_value-requires-clause-digits
digits_value-requires-clause-digits c = hexadecimal_too c.args.digits.now (search rules)

use Rattle.std.proofs.Common.{◌∙◌, ap, ◌<◌, arith}
use Rattle.guest_asm.specs.Numbers.{more}
use Rattle.guest_asm.proofs.Digits.{next_digit}
use Rattle.guest_asm.proofs.number.digits_value.Goals as goal

pub loop-byte-preserved : goal.loop-byte-preserved
loop-byte-preserved c =
    let some : 0 < c.args.radix = omega arith in
    c.with_digit-number.ensures
    ∙ ap (more c.loop-byte.number c.args.radix) c.digit_value.ensures.value
    ∙ next_digit c.args.radix c.args.digits.now c.loop-byte.byte-index c.loop-byte.number some c.loop-byte-test.true c.loop-byte.invariant

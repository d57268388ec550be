use Rattle.std.proofs.Common.{◌≡◌, arith}
use Rattle.std.proofs.lemmas.Nat.{and_mask}
use Rattle.mips_alu.proofs.merging.with_byte.Goals as goal

pub returns-in_default : goal.returns-in_default
returns-in_default c =
    let under = c.requires in
    let other = c.in_default in
    let last : c.args.byte ≡ 3 = omega arith in
    rw (last, and_mask c.args.word 8, and_mask c.args.register 8) (omega arith)

use Rattle.std.proofs.Common.{◌≡◌, arith}
use Rattle.std.proofs.lemmas.Nat.{and_mask}
use Rattle.mips_alu.proofs.merging.with_half.Goals as goal

pub returns-else-byte-eq0 : goal.returns-else-byte-eq0
returns-else-byte-eq0 c =
    let under = c.requires.within in
    let even = c.requires.aligned in
    let other = c.if-byte-eq0.false in
    let last : c.args.byte ≡ 2 = omega arith in
    rw (last, and_mask c.args.word 16, and_mask c.args.register 16) (omega arith)

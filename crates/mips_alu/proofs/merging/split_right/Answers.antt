use Rattle.std.proofs.Common.{refl}
use Rattle.std.proofs.lemmas.Nat.{and_mask}
use Rattle.mips_alu.proofs.merging.split_right.Goals as goal

pub returns-in-0 : goal.returns-in-0
returns-in-0 c = rw (c.in-0.is, and_mask c.args.word 24, and_mask c.args.register 8) refl

pub returns-in-1 : goal.returns-in-1
returns-in-1 c = rw (c.in-1.is, and_mask c.args.word 16, and_mask c.args.register 16) refl

pub returns-in-2 : goal.returns-in-2
returns-in-2 c = rw (c.in-2.is, and_mask c.args.word 8, and_mask c.args.register 24) refl

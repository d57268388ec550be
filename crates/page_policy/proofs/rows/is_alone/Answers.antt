use Rattle.std.proofs.Common.{arith}
use Rattle.std.proofs.lemmas.Grind.{common_steps}
use Rattle.page_policy.proofs.Zeros.{alone-by_parts}
use Rattle.page_policy.proofs.rows.is_alone.Goals as goal

pub returns-then-are_zeros : goal.returns-then-are_zeros
returns-then-are_zeros c = let e = alone-by_parts c.args.node c.args.counts.now c.requires in grind (arith, common_steps)

pub returns-else-are_zeros : goal.returns-else-are_zeros
returns-else-are_zeros c = let e = alone-by_parts c.args.node c.args.counts.now c.requires in grind (arith, common_steps)

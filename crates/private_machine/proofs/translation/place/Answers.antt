use Rattle.std.proofs.Common.{arith}
use Rattle.private_machine.proofs.Alignment.{IsAligned-at}
use Rattle.private_machine.proofs.translation.place.Goals as goal

pub returns-clause-aligned : goal.returns-clause-aligned
returns-clause-aligned c =
    IsAligned-at c.args.unit c.args.address c.located.result c.requires.divides (omega arith) c.located.ensures.at

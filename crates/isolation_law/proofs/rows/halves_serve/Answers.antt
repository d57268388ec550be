-- By the rule on halves and pages.
use Rattle.isolation_law.proofs.rows.halves_serve.Goals as goal
use Rattle.isolation_law.proofs.ServeProofs.{halves-serve}

pub returns : goal.returns
returns c s p co = halves-serve s p co.consistent

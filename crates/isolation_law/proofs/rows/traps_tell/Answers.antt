-- Along the step.
use Rattle.isolation_law.proofs.rows.traps_tell.Goals as goal
use Rattle.isolation_law.proofs.TrapTells.{tells}

pub returns : goal.returns
returns c = tells

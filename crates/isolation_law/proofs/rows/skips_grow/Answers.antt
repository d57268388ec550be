-- By what an entry leaves of the moves that weren't begun.
use Rattle.std.proofs.Common.{ap}
use Rattle.isolation_law.specs.GuestState.{GuestState}
use Rattle.isolation_law.proofs.rows.skips_grow.Goals as goal
use Rattle.isolation_law.proofs.FailureProofs.{row-left}

pub returns-clause-same : goal.returns-clause-same
returns-clause-same c s t e row other = (row-left s t e row).skips other

pub returns-clause-one : goal.returns-clause-one
returns-clause-one c s t k row = ap (λ (x : GuestState). x.skips) row.after

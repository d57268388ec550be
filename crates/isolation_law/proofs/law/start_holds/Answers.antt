-- At the start.
use Rattle.std.proofs.Common.{refl}
use Rattle.isolation_law.proofs.law.start_holds.Goals as goal
use Rattle.isolation_law.proofs.StartProofs.{start_goes_on, start_coherent, start_content}
use Rattle.isolation_law.proofs.LiveRuns.{start-live}

pub returns-clause-coherent : goal.returns-clause-coherent
returns-clause-coherent c b boot = record { consistent = start_coherent b boot; mirrors = refl }

pub returns-clause-uses_live : goal.returns-clause-uses_live
returns-clause-uses_live c = start-live

pub returns-clause-same : goal.returns-clause-same
returns-clause-same c = start_content

pub returns-clause-goes_on : goal.returns-clause-goes_on
returns-clause-goes_on c = start_goes_on

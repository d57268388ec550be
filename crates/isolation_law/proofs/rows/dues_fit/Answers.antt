-- Row by row, and by induction on the journal.
use Rattle.std.proofs.Common.{refl}
use Rattle.isolation_law.specs.Start.{start}
use Rattle.isolation_law.proofs.rows.dues_fit.Goals as goal
use Rattle.isolation_law.proofs.StartProofs.{start_coherent}
use Rattle.isolation_law.proofs.DueProofs.{start-fit, row-fit, hand-fit, run-fit}

pub returns-clause-starts : goal.returns-clause-starts
returns-clause-starts c = start-fit

pub returns-clause-row : goal.returns-clause-row
returns-clause-row c s t e co = row-fit s t e (λ on. (co on).consistent)

pub returns-clause-hand : goal.returns-clause-hand
returns-clause-hand c = hand-fit

pub returns-clause-run : goal.returns-clause-run
returns-clause-run c b journal t boot run = run-fit (start b) t journal (λ on. record { consistent = start_coherent b boot; mirrors = refl }) (start-fit b) run

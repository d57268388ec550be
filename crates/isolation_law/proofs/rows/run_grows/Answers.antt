-- At the end of the journal.
use Rattle.std.proofs.Common.{inl, refl}
use Rattle.isolation_law.proofs.rows.run_grows.Goals as goal
use Rattle.isolation_law.proofs.RunProofs.{run-row, run-hand, run-run}

pub returns-clause-none : goal.returns-clause-none
returns-clause-none c s = inl refl

pub returns-clause-row : goal.returns-clause-row
returns-clause-row c = run-row

pub returns-clause-hand : goal.returns-clause-hand
returns-clause-hand c = run-hand

pub returns-clause-run : goal.returns-clause-run
returns-clause-run c = run-run

-- By induction on the journal.
use Rattle.isolation_law.specs.Start.{start}
use Rattle.isolation_law.proofs.cells.ends_by_use.Goals as goal
use Rattle.isolation_law.proofs.CellRuns.{then-ends, found-in-use, starts-otherwise}

pub returns-clause-then : goal.returns-clause-then
returns-clause-then c b before rest s m t k until on used row run = then-ends s m t rest k on used row run

pub returns-clause-only : goal.returns-clause-only
returns-clause-only c b journal t k run so = found-in-use (start b) t journal k (starts-otherwise b k) run so

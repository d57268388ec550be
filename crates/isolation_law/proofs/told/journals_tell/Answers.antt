-- By induction on the journal.
use Rattle.isolation_law.specs.Start.{start}
use Rattle.isolation_law.proofs.told.journals_tell.Goals as goal
use Rattle.isolation_law.proofs.CellRuns.{found-in-use, starts-otherwise}
use Rattle.isolation_law.proofs.TellsProofs.{run-skips, found-dead}

pub returns-clause-skips : goal.returns-clause-skips
returns-clause-skips c b journal t run = run-skips (start b) t journal run

pub returns-clause-ended : goal.returns-clause-ended
returns-clause-ended c b journal t cell run so = found-dead b journal t cell run (found-in-use (start b) t journal cell (starts-otherwise b cell) run so)

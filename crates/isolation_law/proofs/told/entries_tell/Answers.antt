-- By each entry.
use Rattle.isolation_law.proofs.told.entries_tell.Goals as goal
use Rattle.isolation_law.proofs.CellRuns.{the-failure}
use Rattle.isolation_law.proofs.TellsProofs.{row-skips, row-ends}

pub returns-clause-skips : goal.returns-clause-skips
returns-clause-skips c = row-skips

pub returns-clause-ends : goal.returns-clause-ends
returns-clause-ends c = row-ends

pub returns-clause-outlives : goal.returns-clause-outlives
returns-clause-outlives c s t e cell not_yet row so = (the-failure s t e cell not_yet row so).1

-- By each entry, and over a journal.
use Rattle.isolation_law.proofs.rows.pages_stay.Goals as goal
use Rattle.isolation_law.proofs.PageCountProofs.{row-count, hand-count, boot-count}

pub returns-clause-row : goal.returns-clause-row
returns-clause-row c s t e co row on = row-count s t e row on

pub returns-clause-hand : goal.returns-clause-hand
returns-clause-hand c = hand-count

pub returns-clause-run : goal.returns-clause-run
returns-clause-run c = boot-count

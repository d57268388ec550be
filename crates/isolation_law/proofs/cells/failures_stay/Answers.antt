-- By what an entry leaves of the failed cells.
use Rattle.isolation_law.proofs.cells.failures_stay.Goals as goal
use Rattle.isolation_law.proofs.FailureProofs.{stays-dead, dies-alone, fails-once, failures-counted}

pub returns-clause-stays : goal.returns-clause-stays
returns-clause-stays c = stays-dead

pub returns-clause-only : goal.returns-clause-only
returns-clause-only c = dies-alone

pub returns-clause-once : goal.returns-clause-once
returns-clause-once c = fails-once

pub returns-clause-no_load : goal.returns-clause-no_load
returns-clause-no_load c s t p v row = row.lives

pub returns-clause-count : goal.returns-clause-count
returns-clause-count c b journal t k run = failures-counted b t journal k run

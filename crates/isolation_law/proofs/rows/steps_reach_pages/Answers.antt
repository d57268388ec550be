-- By the half that was reached.
use Rattle.isolation_law.proofs.rows.steps_reach_pages.Goals as goal
use Rattle.isolation_law.proofs.DataWithinProofs.{data-within}

pub returns : goal.returns
returns c s p v d co = data-within s p v d co.consistent

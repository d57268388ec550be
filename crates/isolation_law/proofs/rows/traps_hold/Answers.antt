-- By the way of the fetch.
use Rattle.isolation_law.proofs.rows.traps_hold.Goals as goal
use Rattle.isolation_law.proofs.TrapWords.{holds-word}

pub returns : goal.returns
returns c s p v trap co = holds-word s p v trap co.consistent

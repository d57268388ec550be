-- By the half by which the frame was reached.
use Rattle.isolation_law.proofs.rows.lost_is_replica.Goals as goal
use Rattle.isolation_law.proofs.LostProofs.{lost-replica, lost-frame, lost-half, lost-leads}

pub returns-clause-collapses : goal.returns-clause-collapses
returns-clause-collapses c s p v at w co = lost-replica s p v at w co.consistent

pub returns-clause-frame : goal.returns-clause-frame
returns-clause-frame c s p v at w co = lost-frame s p v at w co.consistent

pub returns-clause-half : goal.returns-clause-half
returns-clause-half c = lost-half

pub returns-clause-leads : goal.returns-clause-leads
returns-clause-leads c s p v at w co = lost-leads s p v at w co.consistent

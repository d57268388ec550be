-- Row by row.
use Rattle.isolation_law.proofs.rows.moves_counted.Goals as goal
use Rattle.isolation_law.proofs.MoveCountProofs.{loads-moves, unloads-moves, steps-moves, refills-moves, emulates-moves, ends-read-moves, begins-moves, acks-moves, finishes-moves, lets-go-moves, hand-moves, receives-moves, ends-delivery-moves, discards-moves, skips-moves, fails-moves, ends-moves}

pub returns-clause-loads : goal.returns-clause-loads
returns-clause-loads c = loads-moves

pub returns-clause-unloads : goal.returns-clause-unloads
returns-clause-unloads c = unloads-moves

pub returns-clause-steps : goal.returns-clause-steps
returns-clause-steps c = steps-moves

pub returns-clause-refills : goal.returns-clause-refills
returns-clause-refills c = refills-moves

pub returns-clause-emulates : goal.returns-clause-emulates
returns-clause-emulates c = emulates-moves

pub returns-clause-begins : goal.returns-clause-begins
returns-clause-begins c = begins-moves

pub returns-clause-acks : goal.returns-clause-acks
returns-clause-acks c = acks-moves

pub returns-clause-finishes : goal.returns-clause-finishes
returns-clause-finishes c = finishes-moves

pub returns-clause-receives : goal.returns-clause-receives
returns-clause-receives c = receives-moves

pub returns-clause-discards : goal.returns-clause-discards
returns-clause-discards c = discards-moves

pub returns-clause-skips : goal.returns-clause-skips
returns-clause-skips c = skips-moves

pub returns-clause-fails : goal.returns-clause-fails
returns-clause-fails c = fails-moves

pub returns-clause-ends : goal.returns-clause-ends
returns-clause-ends c = ends-moves

pub returns-clause-ends_read : goal.returns-clause-ends_read
returns-clause-ends_read c = ends-read-moves

pub returns-clause-lets_go : goal.returns-clause-lets_go
returns-clause-lets_go c = lets-go-moves

pub returns-clause-ends_delivery : goal.returns-clause-ends_delivery
returns-clause-ends_delivery c = ends-delivery-moves

pub returns-clause-comes_to_hand : goal.returns-clause-comes_to_hand
returns-clause-comes_to_hand c = hand-moves

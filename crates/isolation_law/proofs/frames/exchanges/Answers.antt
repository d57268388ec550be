-- Row by row.
use Rattle.isolation_law.proofs.frames.exchanges.Goals as goal
use Rattle.isolation_law.proofs.ExchangeProofs.{loads_exchange, unloads_exchange, steps_exchange, refills_exchange, emulates_exchange, ends_read_exchange, begins_exchange, acks_exchange, finishes_exchange, lets_go_exchange, hand_exchange, receives_exchange, ends_delivery_exchange, discards_exchange, skips_exchange, fails_exchange, ends_exchange}

pub returns-clause-loads : goal.returns-clause-loads
returns-clause-loads c = loads_exchange

pub returns-clause-unloads : goal.returns-clause-unloads
returns-clause-unloads c = unloads_exchange

pub returns-clause-steps : goal.returns-clause-steps
returns-clause-steps c = steps_exchange

pub returns-clause-refills : goal.returns-clause-refills
returns-clause-refills c = refills_exchange

pub returns-clause-emulates : goal.returns-clause-emulates
returns-clause-emulates c = emulates_exchange

pub returns-clause-ends_read : goal.returns-clause-ends_read
returns-clause-ends_read c = ends_read_exchange

pub returns-clause-begins : goal.returns-clause-begins
returns-clause-begins c = begins_exchange

pub returns-clause-acks : goal.returns-clause-acks
returns-clause-acks c = acks_exchange

pub returns-clause-finishes : goal.returns-clause-finishes
returns-clause-finishes c = finishes_exchange

pub returns-clause-lets_go : goal.returns-clause-lets_go
returns-clause-lets_go c = lets_go_exchange

pub returns-clause-comes_to_hand : goal.returns-clause-comes_to_hand
returns-clause-comes_to_hand c = hand_exchange

pub returns-clause-receives : goal.returns-clause-receives
returns-clause-receives c = receives_exchange

pub returns-clause-ends_delivery : goal.returns-clause-ends_delivery
returns-clause-ends_delivery c = ends_delivery_exchange

pub returns-clause-discards : goal.returns-clause-discards
returns-clause-discards c = discards_exchange

pub returns-clause-skips : goal.returns-clause-skips
returns-clause-skips c = skips_exchange

pub returns-clause-fails : goal.returns-clause-fails
returns-clause-fails c = fails_exchange

pub returns-clause-ends : goal.returns-clause-ends
returns-clause-ends c = ends_exchange

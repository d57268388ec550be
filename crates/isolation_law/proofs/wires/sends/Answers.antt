-- By the lists that were sent.
use Rattle.std.proofs.Common.{arith}
use Rattle.isolation_law.proofs.wires.sends.Goals as goal
use Rattle.isolation_law.proofs.WireProofs.{packets-more, accepted-more, accepted-full}

pub returns-clause-more : goal.returns-clause-more
returns-clause-more c = packets-more

pub returns-clause-accepted : goal.returns-clause-accepted
returns-clause-accepted c = accepted-more 0

pub returns-clause-full : goal.returns-clause-full
returns-clause-full c sent accepted p many = accepted-full 0 sent accepted p (omega (arith, many))

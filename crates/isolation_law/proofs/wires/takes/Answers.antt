-- By the journal.
use Rattle.isolation_law.proofs.wires.takes.Goals as goal
use Rattle.isolation_law.proofs.WireProofs.{taken-same, taken-comes, taken-received, tells-received, taken-ended, tells-ended, taken-discarded, tells-discarded, tells-same}

pub returns-clause-same : goal.returns-clause-same
returns-clause-same c = taken-same

pub returns-clause-comes : goal.returns-clause-comes
returns-clause-comes c = taken-comes

pub returns-clause-received : goal.returns-clause-received
returns-clause-received c = taken-received

pub returns-clause-tells : goal.returns-clause-tells
returns-clause-tells c = tells-received

pub returns-clause-tells_same : goal.returns-clause-tells_same
returns-clause-tells_same c = tells-same

pub returns-clause-ended : goal.returns-clause-ended
returns-clause-ended c = taken-ended

pub returns-clause-tells_ended : goal.returns-clause-tells_ended
returns-clause-tells_ended c = tells-ended

pub returns-clause-discarded : goal.returns-clause-discarded
returns-clause-discarded c = taken-discarded

pub returns-clause-tells_discarded : goal.returns-clause-tells_discarded
returns-clause-tells_discarded c = tells-discarded

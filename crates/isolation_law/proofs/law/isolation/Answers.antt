-- From the start.
use Rattle.isolation_law.proofs.law.isolation.Goals as goal
use Rattle.isolation_law.proofs.IsolationProofs.{isolated}

pub returns : goal.returns
returns c = isolated

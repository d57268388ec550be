use Rattle.wire_queue.proofs.Moves.{begins}
use Rattle.wire_queue.proofs.wire.WireQueue.open.Goals as goal

pub ruled-requires-clause-rule : goal.ruled-requires-clause-rule
ruled-requires-clause-rule c = begins

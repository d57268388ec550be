use Rattle.wire_queue.proofs.Moves.{spares}
use Rattle.wire_queue.proofs.wire.WireQueue.spare.Goals as goal

pub another-requires-clause-rule : goal.another-requires-clause-rule
another-requires-clause-rule c = spares _ _

use Rattle.wire_queue.proofs.Moves.{splits}
use Rattle.wire_queue.proofs.wire.WireQueue.split.Goals as goal

pub another-requires-clause-rule : goal.another-requires-clause-rule
another-requires-clause-rule c = splits _ _ c.requires.ends.0 c.requires.ends.1

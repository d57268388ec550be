use Rattle.wire_queue.proofs.Moves.{compares}
use Rattle.wire_queue.proofs.wire.WireQueue.compare.Goals as goal

pub learn_as-requires-clause-rule : goal.learn_as-requires-clause-rule
learn_as-requires-clause-rule c = compares _ _ c.requires.ends.0 c.requires.ends.1

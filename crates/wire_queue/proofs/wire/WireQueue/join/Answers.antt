use Rattle.wire_queue.proofs.Moves.{merges}
use Rattle.wire_queue.proofs.wire.WireQueue.join.Goals as goal

pub absorb-requires-clause-rule : goal.absorb-requires-clause-rule
absorb-requires-clause-rule c = merges _ _ _ _ c.requires.ends.0 c.requires.ends.1

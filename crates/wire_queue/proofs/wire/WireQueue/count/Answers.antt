use Rattle.wire_queue.proofs.Moves.{compares}
use Rattle.wire_queue.proofs.wire.WireQueue.count.Goals as goal

pub len_as-requires-clause-rule : goal.len_as-requires-clause-rule
len_as-requires-clause-rule g c = compares _ _ c.requires.ends.0 c.requires.ends.1

use Rattle.wire_queue.proofs.Moves.{opens}
use Rattle.wire_queue.proofs.wire.open_as.Goals as goal

pub another-requires-clause-rule : goal.another-requires-clause-rule
another-requires-clause-rule g c = opens _ _ _ c.requires.both.0 c.requires.both.1 c.requires.nothing

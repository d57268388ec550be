use Rattle.wire_queue.proofs.Moves.{accepts, counts}
use Rattle.wire_queue.proofs.wire.WireQueue.put.Goals as goal

pub push_as-requires-clause-rule : goal.push_as-requires-clause-rule
push_as-requires-clause-rule g c = (accepts _ _ _ _ c.requires.sends c.requires.fits, counts _ _ c.requires.sends)

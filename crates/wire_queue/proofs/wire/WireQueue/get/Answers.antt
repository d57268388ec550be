use Rattle.wire_queue.proofs.Moves.{takes_one}
use Rattle.wire_queue.proofs.wire.WireQueue.get.Goals as goal

pub pop_as-requires-clause-rule : goal.pop_as-requires-clause-rule
pop_as-requires-clause-rule g c = (takes_one _ _ c.requires.takes, λ items views h at. tt)

use Rattle.node_frames.proofs.NextLemmas.{left_first}
use Rattle.node_frames.proofs.law.first_holder_has_all.Goals as goal

pub returns : goal.returns
returns c = left_first

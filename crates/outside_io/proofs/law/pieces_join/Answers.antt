use Rattle.outside_io.proofs.WritingLemmas.{Took-twice, Puts-behind, Puts-stopped}
use Rattle.outside_io.proofs.law.pieces_join.Goals as goal

pub returns : goal.returns
returns c = record { taken = Took-twice; behind = Puts-behind; stopped = Puts-stopped }

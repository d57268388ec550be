use Rattle.shootdown.proofs.Moves.{adds}
use Rattle.shootdown.proofs.calls.add.Goals as goal

pub load-requires : goal.load-requires
load-requires g c = (c.requires.board.0, c.requires.board.1, adds _ _ _ _ c.requires.pair)

use Rattle.std.proofs.Common.{sym, ◌∙◌}
use Rattle.frame_words.proofs.Moves.{loads_loans}
use Rattle.frame_words.proofs.loans.load_loans.Goals as goal

pub load-requires : goal.load-requires
load-requires g c = (c.requires.seat, c.requires.within.0, loads_loans _ _ _ _ _ _ c.requires.within.1 (c.requires.lend ∙ sym c.requires.named))

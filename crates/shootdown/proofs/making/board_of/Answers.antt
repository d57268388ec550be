use Rattle.shootdown.proofs.Blanks.{begins}
use Rattle.shootdown.proofs.making.board_of.Goals as goal

pub of_words-requires : goal.of_words-requires
of_words-requires c = begins _ _ _

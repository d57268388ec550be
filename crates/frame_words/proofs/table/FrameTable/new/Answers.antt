use Rattle.std.proofs.Common.{◌∙◌}
use Rattle.frame_words.proofs.Begins.{begins}
use Rattle.frame_words.proofs.table.FrameTable.new.Goals as goal

pub of_words-requires : goal.of_words-requires
of_words-requires c = begins _ _ (c.as_slice.ensures.value ∙ c.in_ok-words.ensures)

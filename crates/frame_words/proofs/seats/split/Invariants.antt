use Rattle.frame_words.specs.Splits.{named}
use Rattle.frame_words.proofs.seats.split.Given as goal

abbrev pub ghosts-cut : goal.ghosts-cut
ghosts-cut a = record { part = named a.frames.now a.loans.now }

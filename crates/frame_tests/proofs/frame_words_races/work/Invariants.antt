use Rattle.frame_words.specs.Holders.{HasSame}
use Rattle.frame_tests.proofs.frame_words_races.work.Given as goal

abbrev pub invariant-loop-i : goal.invariant-loop-i
invariant-loop-i l = HasSame l.initial.holder l.holder

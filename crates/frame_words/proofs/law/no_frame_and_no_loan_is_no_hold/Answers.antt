use Rattle.frame_words.proofs.HandedLemmas.{no_holds}
use Rattle.frame_words.proofs.law.no_frame_and_no_loan_is_no_hold.Goals as goal

pub returns : goal.returns
returns c = no_holds

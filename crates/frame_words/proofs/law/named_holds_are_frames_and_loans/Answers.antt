use Rattle.frame_words.proofs.HandedLemmas.{has_named, has_only_named}
use Rattle.frame_words.proofs.law.named_holds_are_frames_and_loans.Goals as goal

pub returns-clause-enough : goal.returns-clause-enough
returns-clause-enough c = has_named

pub returns-clause-handed : goal.returns-clause-handed
returns-clause-handed c = has_only_named

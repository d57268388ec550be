use Rattle.std.proofs.Common.{◌∙◌}
use Rattle.boot_frames.specs.Claims.{home_of}
use Rattle.boot_frames.proofs.SplitLemmas.{loans_each}
use Rattle.boot_frames.proofs.LotLemmas.{lot_named}
use Rattle.boot_frames.proofs.law.a_lot_holds_its_frames.Goals as goal

pub returns-clause-frames : goal.returns-clause-frames
returns-clause-frames c = λ table layout left claim lot s. (lot_named c.named_holds_are_frames_and_loans.ensures.handed table layout left claim lot s).holds

pub returns-clause-under : goal.returns-clause-under
returns-clause-under c = λ table layout left claim lot s. (lot_named c.named_holds_are_frames_and_loans.ensures.handed table layout left claim lot s).under

pub returns-clause-loans : goal.returns-clause-loans
returns-clause-loans c = λ table layout left claim lot s cell low.
    (lot_named c.named_holds_are_frames_and_loans.ensures.handed table layout left claim lot s).lent cell low ∙ loans_each layout (home_of layout claim.taker) lot.frames cell low

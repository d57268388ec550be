use Rattle.std.proofs.Common.{List, ℕ, sym, subst, arith}
use Rattle.frame_words.specs.Splits.{named, HasHolds}
use Rattle.boot_frames.specs.Loans.{loans_of}
use Rattle.boot_frames.proofs.splitting.split_off.Goals as goal
use Rattle.node_frames.specs.Layout.{layout_of}

pub split-holder-requires-clause-has : goal.split-holder-requires-clause-has
split-holder-requires-clause-has c =
    let frames = c.args.taken.frames in
    let loans = loans_of (layout_of c.args.shape.now) c.args.taken.home.0 frames in
    subst (λ (l : List ℕ). HasHolds c.args.holder.now.view (named frames l)) (sym c.count_loans-loans.ensures)
    (c.named_holds_are_frames_and_loans.ensures.enough c.args.holder.now.view frames loans (omega arith) c.requires.has)

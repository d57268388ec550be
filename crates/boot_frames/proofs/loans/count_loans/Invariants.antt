use Rattle.std.proofs.Common.{take}
use Rattle.boot_frames.proofs.LoanLemmas.{Counted}
use Rattle.boot_frames.proofs.loans.count_loans.Given as goal
use Rattle.node_frames.specs.Layout.{layout_of}

abbrev pub invariant-loop-frame : goal.invariant-loop-frame
invariant-loop-frame l = Counted (layout_of l.shape) l.home.0 (take l.frame-index l.frames) l.loans

use Rattle.std.proofs.Common.{◌≡◌, ◌/◌, ◌<◌, ℕ, ◌∙◌, subst, sym}
use Rattle.frame_words.specs.Views.{cell_loans}
use Rattle.frame_words.specs.declared.view.StepKind.TheVariants.{GiveBack}
use Rattle.node_frames.specs.Places.{cell_of_node}
use Rattle.node_frames.proofs.ReleaseLemmas.{cell_is, cell_low, still_lent, apart}
use Rattle.node_frames.proofs.search.release.Goals as goal
use Rattle.node_frames.specs.Layout.{layout_of}

pub repay-requires-clause-holds : goal.repay-requires-clause-holds
repay-requires-clause-holds c =
    let node = c.args.frame.0 / c.args.shape.now.frames in
    let is : cell_of_node (layout_of c.args.shape.now) node ≡ c.cell_of-lender.result.0 = cell_is (layout_of c.args.shape.now) node c.cell_of-lender.result c.cell_of-lender.ensures in
    still_lent c.holds_and_looks_add_up.ensures.holds _ _ GiveBack _ _ c.give_back.ensures.given (cell_low c.args.table.now (layout_of c.args.shape.now) node c.cell_of-lender.result c.requires.fits c.cell_of-lender.ensures)
    (subst (λ (x : ℕ). 0 < cell_loans c.args.holder.now.view x) is (c.requires.loan (λ e. apart _ _ _ c.if-ne.true c.ne.ensures (sym is ∙ e))))

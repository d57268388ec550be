use Rattle.std.proofs.Common.{◌≡◌, ◌+◌, true}
use Rattle.node_frames.specs.Left.{left_of, has, after_searches}
use Rattle.frame_tests.proofs.node_frames_boots.fill.Given as goal
use Rattle.node_frames.specs.Layout.{layout_of}

abbrev pub invariant-loop-taken : goal.invariant-loop-taken
invariant-loop-taken l =
    (l.holder.table ≡ l.initial.holder.table) × (l.holder.view.alone ≡ true)
    × (left_of (layout_of l.shape) l.table.terms.lends l.holder.view ≡ after_searches (layout_of l.shape) l.home.0 l.order l.taken (left_of (layout_of l.shape) l.table.terms.lends l.initial.holder.view))
    × (has (layout_of l.shape) l.home.0 (left_of (layout_of l.shape) l.table.terms.lends l.holder.view) + l.taken ≡ has (layout_of l.shape) l.home.0 (left_of (layout_of l.shape) l.table.terms.lends l.initial.holder.view))

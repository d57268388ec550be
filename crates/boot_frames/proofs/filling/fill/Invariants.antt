use Rattle.std.proofs.Common.{◌≡◌}
use Rattle.boot_frames.proofs.FillLemmas.{Filling}
use Rattle.boot_frames.proofs.filling.fill.Given as goal
use Rattle.node_frames.specs.Layout.{layout_of}

abbrev pub invariant-loop-taken : goal.invariant-loop-taken
invariant-loop-taken l =
    (l.holder.table ≡ l.initial.holder.table) × Filling l.table (layout_of l.shape) l.fn.claim.taker l.taken l.frames.items l.initial.holder.view l.holder.view

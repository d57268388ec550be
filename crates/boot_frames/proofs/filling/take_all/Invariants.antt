use Rattle.std.proofs.Common.{◌≡◌, take}
use Rattle.boot_frames.specs.Takings.{TakesAll}
use Rattle.boot_frames.proofs.filling.take_all.Given as goal
use Rattle.node_frames.specs.Layout.{layout_of}

abbrev pub invariant-loop-claim : goal.invariant-loop-claim
invariant-loop-claim l =
    (l.holder.table ≡ l.initial.holder.table)
    × TakesAll l.table (layout_of l.shape) (take l.claim-index l.claims) l.taken.items l.initial.holder.view l.holder.view

use Rattle.std.proofs.Common.{◌≡◌, drop}
use Rattle.node_frames.specs.Left.{first_giving}
use Rattle.boot_frames.specs.Counts.{counted_left}
use Rattle.boot_frames.proofs.counts.Counts.first_giving.Given as goal
use Rattle.node_frames.specs.Layout.{layout_of}

abbrev pub invariant-loop-node : goal.invariant-loop-node
invariant-loop-node l =
    let left = counted_left (layout_of l.shape) l.self in
    first_giving (layout_of l.shape) l.home.0 left (drop l.node-index l.order) ≡ first_giving (layout_of l.shape) l.home.0 left l.order

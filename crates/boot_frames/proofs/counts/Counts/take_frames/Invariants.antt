use Rattle.std.proofs.Common.{◌≡◌, ◌≤◌}
use Rattle.boot_frames.specs.Chain.{after_frames}
use Rattle.boot_frames.specs.Claims.{has_of}
use Rattle.boot_frames.specs.Counts.{counted_left}
use Rattle.boot_frames.proofs.counts.Counts.take_frames.Given as goal
use Rattle.node_frames.specs.Layout.{layout_of}

abbrev pub invariant-loop-taken : goal.invariant-loop-taken
invariant-loop-taken l =
    let layout = layout_of l.shape in
    let taker = l.fn.claim.taker in
    let left = counted_left layout l.initial.self in
    (counted_left layout l.self ≡ after_frames layout taker l.taken left) × (l.taken ≤ has_of layout taker left)

use Rattle.std.proofs.Common.{◌≡◌, take, None}
use Rattle.boot_frames.specs.Chain.{after_claims, first_short}
use Rattle.boot_frames.specs.Counts.{counted_left}
use Rattle.boot_frames.proofs.admitting.admit.Given as goal
use Rattle.node_frames.specs.Layout.{layout_of}

abbrev pub invariant-loop-claim : goal.invariant-loop-claim
invariant-loop-claim l =
    let left = counted_left (layout_of l.shape) l.initial.counts in
    (first_short (layout_of l.shape) (take l.claim-index l.claim-items) left ≡ None)
    × (counted_left (layout_of l.shape) l.counts ≡ after_claims (layout_of l.shape) (take l.claim-index l.claim-items) left)

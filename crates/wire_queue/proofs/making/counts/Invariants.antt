use Rattle.std.proofs.Common.{◌≡◌, replicate}
use Rattle.wire_queue.proofs.making.counts.Given as goal

abbrev pub invariant-loop-place : goal.invariant-loop-place
invariant-loop-place l = l.row.items ≡ replicate l._place 0

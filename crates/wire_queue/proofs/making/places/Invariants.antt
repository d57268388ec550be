use Rattle.std.proofs.Common.{◌≡◌, replicate, None}
use Rattle.wire_queue.proofs.making.places.Given as goal

abbrev pub invariant-loop-place : goal.invariant-loop-place
invariant-loop-place g l = l.row.items ≡ replicate l._place None

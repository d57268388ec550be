use Rattle.std.proofs.Common.{◌≡◌, replicate, None}
use Rattle.wire_queue.specs.WireParts.{ids_of}
use Rattle.wire_queue.proofs.making.rows.Given as goal

abbrev pub invariant-loop-row : goal.invariant-loop-row
invariant-loop-row l = ids_of l.rows.items ≡ replicate l._row (replicate l.count None)

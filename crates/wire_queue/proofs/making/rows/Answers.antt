use Rattle.std.proofs.Common.{◌∙◌, ap}
use Rattle.wire_queue.specs.WireParts.{ids_of}
use Rattle.wire_queue.proofs.QueueTables.{rows_more}
use Rattle.wire_queue.proofs.making.rows.Goals as goal

pub loop-row-preserved : goal.loop-row-preserved
loop-row-preserved c =
    ap ids_of c.in_ok-push.ensures.items ∙ rows_more c.loop-row.rows.items c.in_ok-places.field-0 c.loop-row._row c.args.count c.loop-row.invariant c.in_ok-places.ensures

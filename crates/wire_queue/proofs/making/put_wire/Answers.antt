use Rattle.std.proofs.Common.{map}
use Rattle.std.proofs.lemmas.List.{map-set}
use Rattle.std.specs.Option.{option_map}
use Rattle.wire_queue.specs.QueueIds.{queue_id}
use Rattle.wire_queue.proofs.Tables.{changed}
use Rattle.wire_queue.proofs.making.put_wire.Goals as goal

pub returns : goal.returns
returns c =
    changed (λ row. map (option_map (λ wire. queue_id wire.queue)) row.items) c.args.rows.now.items c.args.from.0 c.args.to.0 c.index_mut-row.result.now _ _ c.requires.row c.index_mut-row.ensures.value
    (map-set (option_map (λ wire. queue_id wire.queue)) c.index_mut-row.result.now.items c.args.to.0 _)

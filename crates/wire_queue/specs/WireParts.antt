-- All wires, inside: a row of queues for each sender.
use Rattle.std.specs.Prelude.{◌≡◌, List, map, length, Option}
use Rattle.std.specs.Option.{option_map}
use Rattle.std.specs.Global.{Vec}
use Rattle.wire_queue.specs.QueueIds.{QueueId, queue_id}
use Rattle.wire_queue.specs.Between.{Made}
use Rattle.wire_queue.specs.declared.wire.WireQueue.{WireQueue}
use Rattle.wire_queue.specs.declared.wires.Wires.TheInside.{Inside}

-- which queue it is, row by row
abbrev pub ids_of : List (Vec (Option WireQueue)) → List (List (Option QueueId))
ids_of rows = map (λ row. map (option_map (λ wire. queue_id wire.queue)) row.items) rows

abbrev pub made_of : Inside → Made
made_of a = record { queues = ids_of a.rows.items; terms = a.terms }

-- there is a row for each guest
abbrev pub IsCounted : Inside → Type 0
IsCounted a = length a.rows.items ≡ a.guests

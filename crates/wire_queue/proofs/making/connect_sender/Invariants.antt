use Rattle.wire_queue.specs.Lines.{terms_of}
use Rattle.wire_queue.specs.WireParts.{ids_of}
use Rattle.wire_queue.specs.Making.{AreMade, MadeBelow, MadeTo}
use Rattle.wire_queue.proofs.making.connect_sender.Given as goal

abbrev pub invariant-loop-to : goal.invariant-loop-to
invariant-loop-to l = record {
  made : AreMade l.guests (terms_of l.shape l.homes) (ids_of l.rows.items) l.lists.items;
  below : MadeBelow l.guests l.from.0 (ids_of l.rows.items);
  to : MadeTo l.from.0 l.to (ids_of l.rows.items);
}

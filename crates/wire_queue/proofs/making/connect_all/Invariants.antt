use Rattle.wire_queue.specs.Lines.{terms_of}
use Rattle.wire_queue.specs.WireParts.{ids_of}
use Rattle.wire_queue.specs.Making.{AreMade, MadeBelow}
use Rattle.wire_queue.proofs.making.connect_all.Given as goal

abbrev pub invariant-loop-from : goal.invariant-loop-from
invariant-loop-from l = record {
  made : AreMade l.guests (terms_of l.shape l.homes) (ids_of l.rows.items) l.lists.items;
  below : MadeBelow l.guests l.from (ids_of l.rows.items);
}

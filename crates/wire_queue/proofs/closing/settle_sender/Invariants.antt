use Rattle.std.proofs.Common.{◌≡◌, ◌≢◌, ℕ, ◌<◌, ◌≤◌}
use Rattle.wire_queue.specs.Between.{entry}
use Rattle.wire_queue.specs.PassTables.{sends_of, takes_of}
use Rattle.wire_queue.specs.Closing.{IsInOrder, HasPlaces}
use Rattle.wire_queue.proofs.closing.settle_sender.Given as goal

abbrev pub invariant-loop-to : goal.invariant-loop-to
invariant-loop-to l = record {
  places : HasPlaces l.guests l.lists.items;
  sends : sends_of l.lists.items ≡ sends_of l.initial.lists.items;
  others : (other to : ℕ) → other ≢ l.from.0 → entry (takes_of l.lists.items) to other ≡ entry (takes_of l.initial.lists.items) to other;
  later : (to : ℕ) → l.to ≤ to → entry (takes_of l.lists.items) to l.from.0 ≡ entry (takes_of l.initial.lists.items) to l.from.0;
  first : (to : ℕ) → to < l.to → IsInOrder (sends_of l.initial.lists.items) (takes_of l.initial.lists.items) l.from.0 to;
}

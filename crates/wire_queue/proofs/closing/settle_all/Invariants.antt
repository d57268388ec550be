use Rattle.std.proofs.Common.{◌≡◌, ℕ, ◌<◌, ◌≤◌}
use Rattle.wire_queue.specs.Between.{entry}
use Rattle.wire_queue.specs.PassTables.{sends_of, takes_of}
use Rattle.wire_queue.specs.Closing.{IsInOrder, HasPlaces}
use Rattle.wire_queue.proofs.closing.settle_all.Given as goal

abbrev pub invariant-loop-from : goal.invariant-loop-from
invariant-loop-from l = record {
  places : HasPlaces l.guests l.lists.items;
  sends : sends_of l.lists.items ≡ sends_of l.initial.lists.items;
  later : (from to : ℕ) → l.from ≤ from → entry (takes_of l.lists.items) to from ≡ entry (takes_of l.initial.lists.items) to from;
  first : (from to : ℕ) → from < l.from → to < l.guests → IsInOrder (sends_of l.initial.lists.items) (takes_of l.initial.lists.items) from to;
}

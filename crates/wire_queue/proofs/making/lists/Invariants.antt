use Rattle.std.proofs.Common.{◌≡◌, ℕ, ◌<◌, length, replicate, slice_index, None}
use Rattle.wire_queue.specs.PassTables.{sends_of, takes_of, guests_of, asks_kept}
use Rattle.wire_queue.proofs.making.lists.Given as goal

abbrev pub invariant-loop-guest : goal.invariant-loop-guest
invariant-loop-guest l = record {
  all : length l.lists.items ≡ l.guest;
  sends : sends_of l.lists.items ≡ replicate l.guest (replicate l.guests None);
  takes : takes_of l.lists.items ≡ replicate l.guest (replicate l.guests None);
  asks : asks_kept l.lists.items ≡ replicate l.guest l.guests;
  numbered : (k : ℕ) → k < l.guest → slice_index (guests_of l.lists.items) k ≡ k;
}

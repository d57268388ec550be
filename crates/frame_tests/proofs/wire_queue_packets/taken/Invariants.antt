use Rattle.std.proofs.Common.{◌≡◌, IsSome}
use Rattle.wire_queue.specs.PassLists.{IsListOf, taking_from}
use Rattle.frame_tests.proofs.wire_queue_packets.taken.Given as goal

abbrev pub invariant-loop-number : goal.invariant-loop-number
invariant-loop-number g l = record {
  of : IsListOf l.wires l.second;
  guest : l.second.guest.0 ≡ 1;
  there : IsSome (taking_from l.second 0);
}

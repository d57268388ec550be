use Rattle.std.proofs.Common.{◌≡◌, ◌≤◌, IsSome}
use Rattle.wire_queue.specs.PassLists.{IsListOf, sending_to}
use Rattle.frame_tests.proofs.wire_queue_packets.accepted.Given as goal

abbrev pub invariant-loop-number : goal.invariant-loop-number
invariant-loop-number g l = record {
  of : IsListOf l.wires l.first;
  guest : l.first.guest.0 ≡ 0;
  there : IsSome (sending_to l.first 1);
  few : l.accepted ≤ l.number;
}

use Rattle.std.proofs.Common.{◌≡◌, ◌≤◌, IsSome}
use Rattle.wire_queue.specs.PassLists.{IsListOf, taking_from}
use Rattle.frame_tests.proofs.wire_queue_soak.take_all.Given as goal

abbrev pub invariant-loop-turn : goal.invariant-loop-turn
invariant-loop-turn g l = record {
  of : IsListOf l.wires l.second;
  guest : l.second.guest.0 ≡ 1;
  there : IsSome (taking_from l.second 0);
  few : l.next ≤ 20000;
}

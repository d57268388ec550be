use Rattle.std.proofs.Common.{◌≡◌, IsSome}
use Rattle.wire_queue.specs.Packets.{packet_of}
use Rattle.wire_queue.specs.Lines.{Fits}
use Rattle.wire_queue.specs.Between.{line_between}
use Rattle.wire_queue.specs.PassLists.{IsListOf, sending_to}
use Rattle.frame_tests.proofs.wire_queue_soak.deliver.Given as goal

abbrev pub invariant-loop-turn : goal.invariant-loop-turn
invariant-loop-turn g l = record {
  of : IsListOf l.wires l.first;
  guest : l.first.guest.0 ≡ 0;
  there : IsSome (sending_to l.first 1);
  fits : Fits (line_between l.wires 0 1) (packet_of l.next);
}

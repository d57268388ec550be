-- None of the wires that were asked so far gave a packet.
use Rattle.std.specs.Prelude.{◌≡◌}
use Rattle.wire_queue.specs.ListSteps.{AsksInVain}
use Rattle.wire_queue.specs.PassLists.{IsListOf}
use Rattle.guest_core.specs.Wiring.{is_other_in}
use Rattle.guest_core.proofs.wiring.Wiring.ask.Given as goal

abbrev pub invariant-loop-from : goal.invariant-loop-from
invariant-loop-from g l =
    IsListOf l.wires l.self.passes
    × AsksInVain l.initial.self.passes l.self.passes (is_other_in l.initial.self.passes.guest.0 l.first l.from)
    × (l.self.wires ≡ l.initial.self.wires)

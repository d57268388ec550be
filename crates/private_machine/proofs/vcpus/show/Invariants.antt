use Rattle.private_machine.specs.Showing.{showing_from}
use Rattle.private_machine.proofs.Turns.{SoFar}
use Rattle.private_machine.proofs.vcpus.show.Given as goal

abbrev pub invariant-loop-number : goal.invariant-loop-number
invariant-loop-number l = SoFar l.number l.vcpus l.initial.vcpus (showing_from l.packet l.halted l.called l.initial.vcpus)

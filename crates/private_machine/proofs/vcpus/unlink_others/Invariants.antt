use Rattle.private_machine.specs.Links.{unlinked_others}
use Rattle.private_machine.proofs.Turns.{SoFar}
use Rattle.private_machine.proofs.vcpus.unlink_others.Given as goal

abbrev pub invariant-loop-number : goal.invariant-loop-number
invariant-loop-number l = SoFar l.number l.vcpus l.initial.vcpus (unlinked_others l.line l.storing l.initial.vcpus)

use Rattle.std.proofs.Common.{map}
use Rattle.private_machine.specs.Links.{unlinked_page}
use Rattle.private_machine.proofs.Turns.{SoFar}
use Rattle.private_machine.proofs.vcpus.unlink_page.Given as goal

abbrev pub invariant-loop-number : goal.invariant-loop-number
invariant-loop-number l = SoFar l.number l.vcpus l.initial.vcpus (map (unlinked_page l.page.0) l.initial.vcpus)

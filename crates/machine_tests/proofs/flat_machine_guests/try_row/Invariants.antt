use Rattle.std.proofs.Common.{◌≡◌, length}
use Rattle.machine_tests.proofs.flat_machine_guests.try_row.Given as goal

abbrev pub invariant-loop-happens : goal.invariant-loop-happens
invariant-loop-happens g l = length l.flat.vcpus ≡ l.fn.row.vcpus

use Rattle.std.proofs.Common.{◌≡◌, length}
use Rattle.machine_tests.proofs.guest_devs_registers.input_waits_from_its_step_on.Given as goal

abbrev pub invariant-loop-offset : goal.invariant-loop-offset
invariant-loop-offset g l = length l.devs.state.page.transfers ≡ 2

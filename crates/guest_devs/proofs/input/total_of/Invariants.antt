use Rattle.std.proofs.Common.{◌≡◌, take, sum_by}
use Rattle.guest_devs.specs.DeviceState.{text_length}
use Rattle.guest_devs.proofs.input.total_of.Given as goal

abbrev pub invariant-loop-entry : goal.invariant-loop-entry
invariant-loop-entry l = l.bytes ≡ sum_by text_length (take l.entry-index l.input)

use Rattle.std.proofs.Common.{◌≡◌, drop}
use Rattle.private_machine.specs.DeviceRegisters.{arrived}
use Rattle.guest_devs.proofs.input.comes.Given as goal

-- the entries so far have come and have no byte
abbrev pub invariant-loop-entry : goal.invariant-loop-entry
invariant-loop-entry l = arrived l.steps l.input ≡ arrived l.steps (drop l.entry-index l.input)

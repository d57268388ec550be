use Rattle.std.proofs.Common.{◌≡◌, take}
use Rattle.guest_devs.proofs.input.copy_of.Given as goal

abbrev pub invariant-loop-entry : goal.invariant-loop-entry
invariant-loop-entry l = l.entries.items ≡ take l.entry-index l.input

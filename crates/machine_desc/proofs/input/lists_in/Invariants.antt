use Rattle.machine_desc.specs.Input.{AreInputs}
use Rattle.machine_desc.proofs.input.lists_in.Given as goal

abbrev pub invariant-loop-guest : goal.invariant-loop-guest
invariant-loop-guest l = AreInputs l.guest l.tables l.lists

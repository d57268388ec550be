use Rattle.std.proofs.Common.{take}
use Rattle.machine_desc.specs.Names.{cell_named}
use Rattle.machine_desc.proofs.Plain.{IsCheckedTo}
use Rattle.machine_desc.proofs.names.cells_named.Given as goal

abbrev pub invariant-loop-i : goal.invariant-loop-i
invariant-loop-i l = IsCheckedTo (λ i cell. cell_named l.count i (take i l.cells) cell.nodes) l.cells l.i

use Rattle.std.proofs.Common.{◌≡◌, length}
use Rattle.machine_desc.specs.Names.{home}
use Rattle.machine_desc.proofs.Ranges.{IsReadBelow}
use Rattle.machine_desc.proofs.names.homes.Given as goal

abbrev pub invariant-loop-node : goal.invariant-loop-node
invariant-loop-node l = IsReadBelow (λ i node. home l.cells node) l.count l.homes l.node × (length l.homes ≡ l.node)

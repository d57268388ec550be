use Rattle.std.proofs.Common.{take, codes}
use Rattle.machine_desc.specs.declared.place.Place.TheVariants as places
use Rattle.machine_desc.specs.Paths.{path}
use Rattle.machine_desc.specs.Names.{node_named}
use Rattle.machine_desc.proofs.Plain.{IsCheckedTo}
use Rattle.machine_desc.proofs.names.cell_named.Given as goal

abbrev pub invariant-loop-j : goal.invariant-loop-j
invariant-loop-j l = IsCheckedTo (λ j n. node_named (path (places.Cell l.number) (codes "nodes")) l.count l.cells (take j l.nodes) n.0) l.nodes l.j

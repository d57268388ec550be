use Rattle.std.proofs.Common.{codes}
use Rattle.machine_desc.specs.declared.place.Place.TheVariants as places
use Rattle.machine_desc.specs.Paths.{path}
use Rattle.machine_desc.specs.Names.{there}
use Rattle.machine_desc.proofs.Plain.{IsCheckedTo}
use Rattle.machine_desc.proofs.names.processors_named.Given as goal

abbrev pub invariant-loop-node : goal.invariant-loop-node
invariant-loop-node l = IsCheckedTo (λ i n. there (path places.Machine (codes "processors")) l.count n.0) l.processors l.node-index

use Rattle.toml.specs.View.{view}
use Rattle.machine_desc.specs.Paths.{path_of}
use Rattle.machine_desc.specs.Values.{node_in}
use Rattle.machine_desc.proofs.Each.{IsReadTo}
use Rattle.machine_desc.proofs.value.nodes_of.Given as goal

abbrev pub invariant-loop-value : goal.invariant-loop-value
invariant-loop-value l = IsReadTo (λ i d. node_in (path_of l.key) d) view l.array l.nodes l.value-index

use Rattle.std.proofs.Common.{◌≡◌, map, vec_len}
use Rattle.toml.specs.Data.{as_table}
use Rattle.toml.specs.View.{view, table_view}
use Rattle.machine_desc.specs.Paths.{path_of}
use Rattle.machine_desc.specs.Values.{of_kind}
use Rattle.machine_desc.proofs.Each.{IsReadTo}
use Rattle.machine_desc.proofs.value.tables_of.Given as goal

abbrev pub invariant-loop-value : goal.invariant-loop-value
invariant-loop-value l =
    IsReadTo (λ i d. of_kind (path_of l.key) (as_table d)) view l.array (map (λ t. table_view t.now) l.tables.items) l.value-index
    × (vec_len l.tables ≡ l.value-index)

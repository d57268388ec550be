use Rattle.std.proofs.Common.{◌≡◌, length}
use Rattle.toml.specs.View.{table_view}
use Rattle.machine_desc.specs.Sheet.{cell_table_at}
use Rattle.machine_desc.proofs.Each.{IsReadTo}
use Rattle.machine_desc.proofs.tables.cells_in.Given as goal

abbrev pub invariant-loop-number : goal.invariant-loop-number
invariant-loop-number l = IsReadTo cell_table_at (λ t. table_view t.now) l.tables l.cells l.number × (length l.cells ≡ l.number)

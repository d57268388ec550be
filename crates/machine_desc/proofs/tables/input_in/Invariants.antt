use Rattle.toml.specs.View.{table_view}
use Rattle.machine_desc.specs.Sheet.{input_at}
use Rattle.machine_desc.proofs.Each.{IsReadTo}
use Rattle.machine_desc.proofs.tables.input_in.Given as goal

abbrev pub invariant-loop-number : goal.invariant-loop-number
invariant-loop-number l = IsReadTo input_at (λ t. table_view t.now) l.tables l.input l.number

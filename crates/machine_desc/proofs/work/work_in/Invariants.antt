use Rattle.std.proofs.Common.{◌≡◌, length}
use Rattle.toml.specs.View.{table_view}
use Rattle.machine_desc.specs.Work.{work_at}
use Rattle.machine_desc.proofs.Each.{IsReadTo}
use Rattle.machine_desc.proofs.work.work_in.Given as goal

abbrev pub invariant-loop-number : goal.invariant-loop-number
invariant-loop-number l = IsReadTo work_at (λ t. table_view t.now) l.tables l.work l.number × (length l.work ≡ l.number)

use Rattle.run_balance.proofs.NewDeques.{Passed}
use Rattle.run_balance.proofs.making.rows_for.Given as goal

abbrev pub invariant-loop-number : goal.invariant-loop-number
invariant-loop-number l = Passed l.number l.owners l.initial.made l.made l.rows.items

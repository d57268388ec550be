use Rattle.run_balance.proofs.NewDeques.{Rows}
use Rattle.run_balance.proofs.making.sides_of.Given as goal

abbrev pub invariant-loop-place : goal.invariant-loop-place
invariant-loop-place l = Rows l.number l.place l.initial.made l.made l.sides.items

use Rattle.run_balance.proofs.Closes.{Closes}
use Rattle.run_balance.proofs.gathering.settle_all.Given as goal

abbrev pub invariant-loop-place : goal.invariant-loop-place
invariant-loop-place l = Closes l.gates l.place l.initial.owners l.owners

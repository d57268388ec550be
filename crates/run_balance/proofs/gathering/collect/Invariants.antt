use Rattle.run_balance.proofs.Gathered.{Goes}
use Rattle.run_balance.proofs.gathering.collect.Given as goal

abbrev pub invariant-loop-other : goal.invariant-loop-other
invariant-loop-other l = Goes l.place l.initial.dealer l.initial.owners l.other l.dealer l.owners

use Rattle.std.proofs.Common.{◌≡◌, sum_by, take}
use Rattle.run_balance.specs.Making.{count_made}
use Rattle.run_balance.proofs.making.room_for.Given as goal

abbrev pub invariant-loop-m : goal.invariant-loop-m
invariant-loop-m l = l.room ≡ sum_by count_made (take l.m-index l.made)

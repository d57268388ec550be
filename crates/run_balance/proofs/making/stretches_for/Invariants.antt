use Rattle.std.proofs.Common.{length, take}
use Rattle.run_balance.specs.Shares.{flat_from}
use Rattle.run_balance.specs.Making.{AreMade}
use Rattle.run_balance.proofs.making.stretches_for.Given as goal

abbrev pub invariant-loop-number : goal.invariant-loop-number
invariant-loop-number l = AreMade (flat_from 0 (take l.number l.lists)) (length l.lists) (λ _. 1) l.made.items

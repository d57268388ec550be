use Rattle.std.proofs.Common.{List, ◌++◌, take}
use Rattle.run_balance.specs.Shares.{Share, own_shares}
use Rattle.run_balance.specs.Making.{AreMade}
use Rattle.run_balance.proofs.making.add_stretches.Given as goal

abbrev pub invariant-loop-place : goal.invariant-loop-place
invariant-loop-place l = (line : List Share) → AreMade line l.owners (λ _. 1) l.initial.made.items → AreMade (line ++ own_shares l.whose.0 (take l.place l.lists)) l.owners (λ _. 1) l.made.items

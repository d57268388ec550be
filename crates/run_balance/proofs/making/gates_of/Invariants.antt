use Rattle.std.proofs.Common.{◌≡◌, map, take}
use Rattle.run_balance.specs.Making.{deque_made}
use Rattle.run_balance.specs.Deques.{deque_of}
use Rattle.run_balance.proofs.making.gates_of.Given as goal

abbrev pub invariant-loop-m : goal.invariant-loop-m
invariant-loop-m l = map deque_of l.gates.items ≡ map deque_made (take l.m-index l.made)

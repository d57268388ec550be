use Rattle.std.proofs.Common.{◌≡◌, ◌++◌, length}
use Rattle.std.specs.Vec.Iter.{into_iter_items}
use Rattle.run_balance.specs.Making.{ArePlaced}
use Rattle.run_balance.proofs.making.place_all.Given as goal

abbrev pub invariant-loop-m : goal.invariant-loop-m
invariant-loop-m l = (goal.iterator-loop-m).can_next l.m-iterator
    × (goal.iterator-loop-m).is_finite l.m-iterator
    × (l.fn.made.items ≡ l.yielded ++ into_iter_items l.m-iterator)
    × (l.place ≡ length l.yielded)
    × ArePlaced l.fn.made.items (length l.yielded) l.initial.owners l.owners

use Rattle.std.proofs.Common.{◌≡◌, ◌++◌}
use Rattle.std.specs.Vec.Iter.{into_iter_items}
use Rattle.run_balance.specs.Making.{AreBare}
use Rattle.run_balance.proofs.making.owners_of.Given as goal

abbrev pub invariant-loop-sides : goal.invariant-loop-sides
invariant-loop-sides l = (goal.iterator-loop-sides).can_next l.sides-iterator
    × (goal.iterator-loop-sides).is_finite l.sides-iterator
    × (l.fn.rows.items ≡ l.yielded ++ into_iter_items l.sides-iterator)
    × AreBare l.shares l.room l.yielded l.owners.items

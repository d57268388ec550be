use Rattle.std.proofs.Common.{◌≡◌, ◌++◌}
use Rattle.std.specs.Vec.Iter.{into_iter_items}
use Rattle.block_caches.specs.Filling.{disks_seen}
use Rattle.block_caches.proofs.Cells.{holders_of, indexes_for}
use Rattle.block_caches.proofs.filling.fill_caches.Given as goal

-- each cell so far has its index and its holder
abbrev pub invariant-loop-lot : goal.invariant-loop-lot
invariant-loop-lot l =
    (goal.iterator-loop-lot).can_next l.lot-iterator
    × (goal.iterator-loop-lot).is_finite l.lot-iterator
    × (l.indexes.items ≡ indexes_for l.numbers (disks_seen l.disks) 0 l.yielded)
    × (l.holders.items ≡ holders_of l.yielded)
    × (l.yielded ++ into_iter_items l.lot-iterator ≡ l.fn.lots.items)

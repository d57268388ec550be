use Rattle.std.proofs.Common.{◌≡◌, []}
use Rattle.std.specs.Vec.Iter.{into_iter_items}
use Rattle.block_caches.specs.Holding.{AreHeld}
use Rattle.block_caches.proofs.caches.end_caches.Given as goal

-- the holders that are left hold the frames of the indexes that are left
abbrev pub invariant-loop-index : goal.invariant-loop-index
invariant-loop-index l =
    (goal.iterator-loop-index).can_next l.index-iterator
    × (goal.iterator-loop-index).is_finite l.index-iterator
    × AreHeld l.table (into_iter_items l.index-iterator) (into_iter_items l.holders)
    × (l.first.table ≡ l.initial.first.table)
    × (l.first.view.holds ≡ [])

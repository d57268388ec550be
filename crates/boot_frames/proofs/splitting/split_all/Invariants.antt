use Rattle.std.proofs.Common.{◌≡◌, length, All}
use Rattle.std.specs.List.{AllZip}
use Rattle.std.specs.Vec.Iter.{into_iter_items, into_iter_len}
use Rattle.boot_frames.specs.Givings.{HasAll, IsCountable, Gives}
use Rattle.boot_frames.proofs.splitting.split_all.Given as goal
use Rattle.node_frames.specs.Layout.{layout_of}

abbrev pub invariant-loop-one : goal.invariant-loop-one
invariant-loop-one l =
    (goal.iterator-loop-one).can_next l.one-iterator
    × (goal.iterator-loop-one).is_finite l.one-iterator
    × (l.holder.table ≡ l.initial.holder.table)
    × AllZip (Gives l.table (layout_of l.shape)) l.yielded l.lots.items
    × All (IsCountable (layout_of l.shape)) (into_iter_items l.one-iterator)
    × HasAll (layout_of l.shape) l.holder.view (into_iter_items l.one-iterator)
    × (length (into_iter_items l.one-iterator) ≡ into_iter_len l.one-iterator)

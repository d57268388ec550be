use Rattle.std.proofs.Common.{◌≡◌, ◌++◌, length}
use Rattle.std.specs.Vec.Iter.{into_iter_items}
use Rattle.monitor_run.specs.Sources.{shared_blocks, sources_of}
use Rattle.monitor_run.proofs.sources.with_disks.Given as goal

-- so many images have their disks
abbrev pub invariant-loop-image : goal.invariant-loop-image
invariant-loop-image l =
    (goal.iterator-loop-image).can_next l.image-iterator
    × (goal.iterator-loop-image).is_finite l.image-iterator
    × (l.sources ≡ sources_of (shared_blocks l.bases) l.yielded l.numbers)
    × (length l.sources ≡ length l.yielded)
    × (l.yielded ++ into_iter_items l.image-iterator ≡ l.fn.images)

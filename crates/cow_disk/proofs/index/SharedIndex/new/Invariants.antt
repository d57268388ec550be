use Rattle.std.proofs.Common.{◌≡◌, map}
use Rattle.cow_disk.specs.IndexParts.{place_of}
use Rattle.cow_disk.proofs.index.SharedIndex.new.Given as goal

abbrev pub invariant-loop-frame : goal.invariant-loop-frame
invariant-loop-frame l =
    (goal.iterator-loop-frame).can_next l.frame-iterator
    × (goal.iterator-loop-frame).is_finite l.frame-iterator
    × (l.places.items ≡ map place_of l.yielded)

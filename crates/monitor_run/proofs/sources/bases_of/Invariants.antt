use Rattle.std.proofs.Common.{◌≡◌, map}
use Rattle.std.specs.Arc.{arc_value}
use Rattle.monitor_run.proofs.sources.bases_of.Given as goal

abbrev pub invariant-loop-blocks : goal.invariant-loop-blocks
invariant-loop-blocks l =
    (goal.iterator-loop-blocks).can_next l.blocks-iterator
    × (goal.iterator-loop-blocks).is_finite l.blocks-iterator
    × (map arc_value l.bases ≡ l.yielded)

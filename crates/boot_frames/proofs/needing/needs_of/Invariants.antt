use Rattle.std.proofs.Common.{◌≡◌, map, take}
use Rattle.boot_frames.specs.Needs.{need_of}
use Rattle.boot_frames.proofs.needing.needs_of.Given as goal

abbrev pub invariant-loop-spec : goal.invariant-loop-spec
invariant-loop-spec l = l.needs.items ≡ map need_of (take l.spec-index l.specs)

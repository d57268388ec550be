use Rattle.std.proofs.Common.{◌≡◌, drop}
use Rattle.cow_disk.specs.Giving.{HoldsFrames}
use Rattle.cow_disk.proofs.giving.give_all.Given as goal

-- the rest is held
abbrev pub invariant-loop-frame : goal.invariant-loop-frame
invariant-loop-frame l = HoldsFrames l.holder.view (drop l.frame-index l.frames) × (l.holder.table ≡ l.initial.holder.table)

use Rattle.std.proofs.Common.{◌≡◌, ◌≤◌}
use Rattle.frame_tests.proofs.frame_words_races.free_frames.Given as goal

abbrev pub invariant-loop-frame : goal.invariant-loop-frame
invariant-loop-frame l = (l.holder.table ≡ l.initial.holder.table) × (l.free ≤ l.frame)

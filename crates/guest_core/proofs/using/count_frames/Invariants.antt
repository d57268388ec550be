use Rattle.std.proofs.Common.{◌≡◌, [], length, map, take}
use Rattle.base_words.specs.Limits.{most_cells}
use Rattle.base_words.specs.declared.frame.Frame.{Frame}
use Rattle.cell_depend.specs.Counters.{AreCounts}
use Rattle.guest_core.proofs.using.count_frames.Given as goal

-- the frames so far are counted
abbrev pub invariant-loop-frame : goal.invariant-loop-frame
invariant-loop-frame l =
    (length l.uses.counts ≡ most_cells)
    × AreCounts l.shape (record { frames = map (λ (f : Frame). f.number) (take l.frame-index l.frame-items); loaded = [] }) l.uses

use Rattle.std.proofs.Common.{◌≡◌, ◌++◌, map, take, drop}
use Rattle.cell_depend.specs.declared.uses.CellCount.{CellCount}
use Rattle.cell_depend.proofs.uses.Uses.drop_frames.Given as goal

-- the cells so far have no frames
abbrev pub invariant-loop-count : goal.invariant-loop-count
invariant-loop-count l =
    l.count-items ≡ map (λ (count : CellCount). record count { frames = 0 }) (take l.count-index l.initial.count-items) ++ drop l.count-index l.initial.count-items

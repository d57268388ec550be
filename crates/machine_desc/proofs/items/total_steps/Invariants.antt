use Rattle.std.proofs.Common.{◌≡◌, ◌*◌, ◌^◌, ◌≤◌, take, sum_by}
use Rattle.machine_desc.specs.Items.{steps_of}
use Rattle.machine_desc.proofs.items.total_steps.Given as goal

abbrev pub invariant-loop-piece : goal.invariant-loop-piece
invariant-loop-piece l = (l.total ≡ sum_by steps_of (take l.piece-index l.work)) × (l.total ≤ 2 ^ 32 * l.piece-index)

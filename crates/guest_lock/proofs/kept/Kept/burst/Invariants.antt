use Rattle.std.proofs.Common.{◌≤◌, ◌-◌}
use Rattle.guest_lock.specs.Told.{AreInStep, Bursts}
use Rattle.guest_lock.proofs.kept.Kept.burst.Given as goal

abbrev pub invariant-loop-alloc : goal.invariant-loop-alloc
invariant-loop-alloc g l = record {
  told : Bursts l.initial.token g.row.G l.burst l.token;
  turns : l.burst.turns ≤ 256;
  fewer : l.burst.steps ≤ l.burst.turns;
  few : l.burst.steps ≤ l.steps;
  in_step : AreInStep l.token l.self.guest;
}

abbrev pub decreases-loop-alloc : goal.decreases-loop-alloc
decreases-loop-alloc g l = 256 - l.burst.turns

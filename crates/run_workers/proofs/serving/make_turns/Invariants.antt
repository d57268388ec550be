use Rattle.std.proofs.Common.{◌≡◌, ◌≤◌}
use Rattle.guest_lock.specs.Counted.{goes_on}
use Rattle.guest_lock.specs.Told.{Bursts}
use Rattle.run_workers.proofs.serving.make_turns.Given as goal

abbrev pub invariant-loop : goal.invariant-loop
invariant-loop g l = Bursts l.initial.token g.row.G l.made l.token × (l.made.steps ≤ l.job.steps) × (l.made.stop ≡ goes_on l.made.stop)

use Rattle.std.proofs.Common.{◌≡◌, length, drop}
use Rattle.private_machine.specs.PrivateRun.{private_run}
use Rattle.monitor_run.specs.Alone.{own_events}
use Rattle.monitor_run.proofs.private_run.run_items.Given as goal

abbrev pub invariant-loop-item : goal.invariant-loop-item
invariant-loop-item l = record {
  count : length l.flat.vcpus ≡ length l.fn.flat.vcpus;
  rest : private_run l.flat (own_events l.guest (drop l.item-index l.items)) ≡ private_run l.fn.flat (own_events l.guest l.items);
}

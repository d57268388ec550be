use Rattle.std.proofs.Common.{◌≡◌, ◌<◌, ◌≤◌, ◌-◌, true, length, replicate}
use Rattle.base_words.specs.declared.events.OwnEvent.TheVariants.{Step}
use Rattle.private_machine.specs.PrivateRun.{private_run}
use Rattle.flat_machine.specs.FlatView.{machine_of, IsSound}
use Rattle.flat_machine.specs.Windows.{IsWindow}
use Rattle.flat_machine.proofs.machine.Machine.run.Given as goal

-- so many steps were made, and the window is that of the next one
abbrev pub invariant-loop-made : goal.invariant-loop-made
invariant-loop-made l = record {
  sound : IsSound l.self;
  count : length (machine_of l.self).vcpus ≡ length (machine_of l.fn.self).vcpus;
  window : IsWindow (machine_of l.self) l.vcpu.0 l.window;
  ready : 0 < l.window.quiet → l.self.ready ≡ true;
  few : l.made ≤ l.steps;
  made : machine_of l.self ≡ private_run (machine_of l.fn.self) (replicate l.made (Step l.vcpu));
}

abbrev pub decreases-loop-made : goal.decreases-loop-made
decreases-loop-made l = l.steps - l.made

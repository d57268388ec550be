use Rattle.std.proofs.Common.{◌≡◌, drop}
use Rattle.isolation_law.specs.Phases.{all_halted}
use Rattle.monitor_run.proofs.private_run.end_of.Given as goal

abbrev pub invariant-loop-vcpu : goal.invariant-loop-vcpu
invariant-loop-vcpu l = all_halted (drop l.vcpu l.flat.vcpus) ≡ all_halted l.flat.vcpus

use Rattle.std.proofs.Common.{◌≡◌, ◌++◌}
use Rattle.admission.specs.Views.{starts_of}
use Rattle.machine_desc.specs.Described.{described_seen}
use Rattle.monitor_run.specs.Alone.{alone_of, left_from}
use Rattle.monitor_run.proofs.private_run.run_alone.Given as goal

-- what the guests left so far, and what the others leave, is what all leave
abbrev pub invariant-loop-guest : goal.invariant-loop-guest
invariant-loop-guest l =
    let d = described_seen l.setup.machine l.setup.plan in
    l.left ++ left_from d (starts_of l.setup) l.guest ≡ alone_of d (starts_of l.setup)

use Rattle.std.proofs.Common.{take}
use Rattle.plan_due.specs.Planned.{planned}
use Rattle.plan_due.specs.Slices.{own, AreTold}
use Rattle.run_workers.specs.Working.{machine_of, IsSameToken}
use Rattle.run_workers.proofs.carrying.carry_out.Given as goal

-- the first items are carried out
abbrev pub invariant-loop-number : goal.invariant-loop-number
invariant-loop-number g l =
    AreTold (machine_of g.N.Starts.starts) (own l.token.number (planned 0 (take l.number l.items))) l.outcomes.items l.token.notes
    × IsSameToken l.initial.token l.token

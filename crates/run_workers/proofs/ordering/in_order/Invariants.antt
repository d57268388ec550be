use Rattle.std.proofs.Common.{◌≡◌, ◌++◌, drop, length}
use Rattle.plan_due.specs.Planned.{planned}
use Rattle.plan_due.specs.PlanDue.{slices_of, failures_of}
use Rattle.plan_due.specs.Dealt.{dealt}
use Rattle.run_workers.specs.Parts.{outcomes_in}
use Rattle.run_workers.proofs.ordering.in_order.Given as goal

-- what is dealt already, and what the rest of the plan will be dealt
abbrev pub invariant-loop-item : goal.invariant-loop-item
invariant-loop-item l =
    (l.slices ++ slices_of (dealt (planned l.item-index (drop l.item-index l.items)) (outcomes_in l.queues.items)) ≡ slices_of (dealt (planned 0 l.items) (outcomes_in l.initial.queues.items)))
    × (l.failures ++ failures_of (dealt (planned l.item-index (drop l.item-index l.items)) (outcomes_in l.queues.items)) ≡ failures_of (dealt (planned 0 l.items) (outcomes_in l.initial.queues.items)))
    × (length l.queues.items ≡ length l.initial.queues.items)

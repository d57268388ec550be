use Rattle.std.proofs.Common.{◌≡◌, map, Some}
use Rattle.run_workers.specs.Parts.{token_of, outcomes_of, outcomes_in}
use Rattle.run_workers.proofs.workers.parts.Given as goal

abbrev pub invariant-loop-token : goal.invariant-loop-token
invariant-loop-token l =
    (goal.iterator-loop-token).can_next l.token-iterator
    × (goal.iterator-loop-token).is_finite l.token-iterator
    × (l.tokens ≡ map token_of l.yielded)
    × (map Some (outcomes_in l.queues.items) ≡ map outcomes_of l.yielded)

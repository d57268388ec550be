use Rattle.std.proofs.Common.{◌≡◌, map}
use Rattle.run_workers.specs.Parts.{token_of}
use Rattle.run_workers.proofs.workers.workers_of.Given as goal

abbrev pub invariant-loop-token : goal.invariant-loop-token
invariant-loop-token l =
    (goal.iterator-loop-token).can_next l.token-iterator
    × (goal.iterator-loop-token).is_finite l.token-iterator
    × (map token_of l.workers.items ≡ l.yielded)

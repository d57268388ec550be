-- The outcomes of all processors' items, put together in the order of the plan.
use Rattle.std.specs.Prelude.{ℕ, List, [], ◌∷◌, ◌++◌, slice_index_or, slice_set}
use Rattle.plan_due.specs.Planned.{Planned}
use Rattle.plan_due.specs.declared.outcome.Outcome.{Outcome}

-- what is left of the outcomes of a processor
abbrev pub queue_of : List (List Outcome) → ℕ → List Outcome
queue_of queues p = slice_index_or queues p []

-- the first of them, if there is one, and those behind it
abbrev pub front : List Outcome → List Outcome
front [] = []
front (outcome ∷ outcomes) = outcome ∷ []

abbrev pub behind : List Outcome → List Outcome
behind [] = []
behind (outcome ∷ outcomes) = outcomes

-- what is left once an item of a processor has got its outcome
abbrev pub without_front : List (List Outcome) → ℕ → List (List Outcome)
without_front queues p = slice_set queues p (behind (queue_of queues p))

-- each item of the plan gets the next outcome of its processor
abbrev pub dealt : List Planned → List (List Outcome) → List Outcome
dealt [] queues = []
dealt (item ∷ plan) queues = front (queue_of queues item.processor) ++ dealt plan (without_front queues item.processor)

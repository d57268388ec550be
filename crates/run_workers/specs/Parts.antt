-- The parts of workers.
use Rattle.std.specs.Prelude.{List, [], ◌∷◌, map, Option, Some, None, option_map}
use Rattle.std.specs.Vec.Iter.{into_iter_items}
use Rattle.std.specs.declared.alloc.Global.{Global}
use Rattle.std.specs.declared.vec.IntoIter.{IntoIter}
use Rattle.shootdown.specs.Notes.{Token}
use Rattle.plan_due.specs.declared.outcome.Outcome.{Outcome}
use Rattle.run_workers.specs.declared.workers.Worker.{Worker}

abbrev pub token_of : Worker → Token
token_of worker = worker.token

-- the outcomes of a worker, unless memory was wanting
abbrev pub outcomes_of : Worker → Option (List Outcome)
outcomes_of worker = option_map (λ v. v.items) worker.outcomes

-- what is left of each processor's outcomes
abbrev pub outcomes_in : List (IntoIter Outcome Global) → List (List Outcome)
outcomes_in queues = map into_iter_items queues

-- at most one outcome, as a list
abbrev pub as_list : Option Outcome → List Outcome
as_list None = []
as_list (Some outcome) = outcome ∷ []

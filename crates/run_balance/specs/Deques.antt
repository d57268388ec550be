-- The deques of all owners.
use Rattle.std.specs.Prelude.{ℕ, List, map}
use Rattle.crossbeam_deque.specs.Handles.{stealer_deque}
use Rattle.run_balance.specs.Sides.{Deque}
use Rattle.run_balance.specs.Owners.{taken_by}
use Rattle.run_balance.specs.declared.deals.Deals.{Deals}
use Rattle.run_balance.specs.declared.deals.Gate.{Gate}
use Rattle.run_balance.specs.declared.deals.Taken.{Taken}

abbrev pub deque_of : Gate → Deque
deque_of gate = record { id = stealer_deque gate.way; whose = gate.whose.0 }

abbrev pub deques_of : Deals → List Deque
deques_of deals = map deque_of deals.gates.items

-- what each owner took, in order
abbrev pub lists_of : Taken → List (List ℕ)
lists_of taken = map taken_by taken.owners

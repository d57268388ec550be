-- Wires while they are being closed.
use Rattle.std.specs.Prelude.{◌≡◌, ℕ, List, Option, Some}
use Rattle.std.specs.Option.{option_map}
use Rattle.wire_queue.specs.QueueIds.{QueueId}
use Rattle.wire_queue.specs.Ends.{Sending, Taking}
use Rattle.wire_queue.specs.Between.{entry}
use Rattle.wire_queue.specs.PassTables.{sends_of, takes_of, IsSquare}
use Rattle.wire_queue.specs.Steps.{AreFirstOf}
use Rattle.wire_queue.specs.declared.lists.PassList.{PassList}

-- on the wire between two guests, what was taken is the first of what was accepted
abbrev pub IsInOrder : List (List (Option Sending)) → List (List (Option Taking)) → ℕ → ℕ → Type 0
IsInOrder sends takes from to = (end : Sending) (other : Taking) → entry sends from to ≡ Some end → entry takes to from ≡ Some other → AreFirstOf other.taken end.accepted

-- and so on each wire
abbrev pub AreInOrder : List PassList → Type 0
AreInOrder lists = (from to : ℕ) → IsInOrder (sends_of lists) (takes_of lists) from to

-- both ends of the wires from a guest stand in their places
pub record HasEnds (queues : List (List (Option QueueId))) (lists : List PassList) (from : ℕ) : Type 0 where
  pub sends : (to : ℕ) → option_map (λ p. p.wire.queue) (entry (sends_of lists) from to) ≡ entry queues from to
  pub takes : (to : ℕ) → option_map (λ p. p.wire.queue) (entry (takes_of lists) to from) ≡ entry queues from to

-- there is a place for each end
pub record HasPlaces (count : ℕ) (lists : List PassList) : Type 0 where
  pub sends_all : IsSquare count (sends_of lists)
  pub takes_all : IsSquare count (takes_of lists)

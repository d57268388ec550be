-- Wires while they are being made: a table of queues, and tables of their ends.
use Rattle.std.specs.Prelude.{◌≡◌, ◌≢◌, ℕ, ◌<◌, List, [], Option, Some, None, IsSome, replicate, slice_index}
use Rattle.wire_queue.specs.QueueIds.{QueueId}
use Rattle.wire_queue.specs.declared.terms.Terms.{Terms}
use Rattle.wire_queue.specs.Ends.{Wire, Sending, Taking}
use Rattle.wire_queue.specs.Between.{entry, wire_between}
use Rattle.wire_queue.specs.PassTables.{sends_of, takes_of, guests_of, asks_kept, with_entry, IsSquare}
use Rattle.wire_queue.specs.PassLists.{sending_wire, taking_wire}
use Rattle.wire_queue.specs.declared.lists.PassList.{PassList}

-- the wires between so many guests so far: both ends of each wire stand in their places, none went yet, and none leads from a
-- guest to itself
pub record AreMade (count : ℕ) (terms : Terms) (queues : List (List (Option QueueId))) (lists : List PassList) : Type 0 where
  pub queues_all : IsSquare count queues
  pub sends_all : IsSquare count (sends_of lists)
  pub takes_all : IsSquare count (takes_of lists)
  pub asks_all : asks_kept lists ≡ replicate count count
  pub numbered : (guest : ℕ) → guest < count → slice_index (guests_of lists) guest ≡ guest
  pub sends : (from to : ℕ) → sending_wire (entry (sends_of lists) from to) ≡ wire_between (record { queues = queues; terms = terms }) from to
  pub takes : (from to : ℕ) → taking_wire (entry (takes_of lists) to from) ≡ wire_between (record { queues = queues; terms = terms }) from to
  pub accepted : (from to : ℕ) (end : Sending) → entry (sends_of lists) from to ≡ Some end → end.accepted ≡ []
  pub taken : (from to : ℕ) (end : Taking) → entry (takes_of lists) to from ≡ Some end → end.taken ≡ []
  pub itself : (guest : ℕ) → entry queues guest guest ≡ None

-- one wire more: its queue, and its two ends
pub record IsConnected (terms : Terms) (from to : ℕ) (old new : List (List (Option QueueId))) (before after : List PassList) : Type 0 where
  pub wire : Wire
  pub line : wire.line ≡ record { from = from; to = to; terms = terms }
  pub queues : new ≡ with_entry old from to (Some wire.queue)
  pub sends : sends_of after ≡ with_entry (sends_of before) from to (Some (record { wire = wire; accepted = [] }))
  pub takes : takes_of after ≡ with_entry (takes_of before) to from (Some (record { wire = wire; taken = [] }))
  pub guests : guests_of after ≡ guests_of before
  pub asks : asks_kept after ≡ asks_kept before

-- all wires from guests below this one are made
abbrev pub MadeBelow : ℕ → ℕ → List (List (Option QueueId)) → Type 0
MadeBelow count below queues = (from to : ℕ) → from < below → to < count → from ≢ to → IsSome (entry queues from to)

-- and the wires from this one to guests below that one
abbrev pub MadeTo : ℕ → ℕ → List (List (Option QueueId)) → Type 0
MadeTo from below queues = (to : ℕ) → to < below → from ≢ to → IsSome (entry queues from to)

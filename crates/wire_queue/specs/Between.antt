-- What contracts see of all wires together.
use Rattle.std.specs.Prelude.{◌≡◌, ℕ, List, [], Option, Some, None, length, slice_index_or}
use Rattle.std.specs.Option.{option_map}
use Rattle.wire_queue.specs.QueueIds.{QueueId}
use Rattle.wire_queue.specs.declared.terms.Terms.{Terms}
use Rattle.wire_queue.specs.Lines.{Line}
use Rattle.wire_queue.specs.Ends.{Wire}

-- all wires: which queue stands between two guests, by sender and then receiver, and the terms of all
pub record Made : Type 0 where
  pub queues : List (List (Option QueueId))
  pub terms : Terms

-- how many guests they join
abbrev pub guest_count : Made → ℕ
guest_count wires = length wires.queues

-- what a table has in a row at a place, if it has something there
abbrev pub entry : {A : Type 0} → List (List (Option A)) → ℕ → ℕ → Option A
entry rows row place = slice_index_or (slice_index_or rows row []) place None

-- the line of a wire from one guest to another
abbrev pub line_between : Made → ℕ → ℕ → Line
line_between wires from to = record { from = from; to = to; terms = wires.terms }

-- the wire from one guest to another, if there is one
abbrev pub wire_between : Made → ℕ → ℕ → Option Wire
wire_between wires from to = option_map (λ queue. record { queue = queue; line = line_between wires from to }) (entry wires.queues from to)

-- a wire is one of these
abbrev pub IsOf : Made → Wire → Type 0
IsOf wires wire = wire_between wires wire.line.from wire.line.to ≡ Some wire

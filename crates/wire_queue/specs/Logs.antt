-- What a pass knows of its wire.
use Rattle.std.specs.Prelude.{Bool, true, false, List, []}
use Rattle.wire_queue.specs.Packets.{Packet}
use Rattle.wire_queue.specs.Lines.{Line, no_line}

-- whether it is the sender's end, and the receiver's; whose wire it is; what was accepted, if it is the sender's end, and what
-- was taken, if it is the receiver's
pub record Logged : Type 0 where
  pub sends : Bool
  pub takes : Bool
  pub line : Line
  pub accepted : List Packet
  pub taken : List Packet

-- the pass of a new queue, which is both ends of no wire yet
abbrev pub nothing_known : Logged
nothing_known = record { sends = true; takes = true; line = no_line; accepted = []; taken = [] }

abbrev pub sender_log : Line → List Packet → Logged
sender_log line accepted = record { sends = true; takes = false; line = line; accepted = accepted; taken = [] }

abbrev pub taker_log : Line → List Packet → Logged
taker_log line taken = record { sends = false; takes = true; line = line; accepted = []; taken = taken }

-- both ends in one pass, and what is left of the other
abbrev pub joined_log : Logged → Logged → Logged
joined_log v w = record { sends = true; takes = true; line = v.line; accepted = v.accepted; taken = w.taken }

abbrev pub spent_log : Logged
spent_log = record { sends = false; takes = false; line = no_line; accepted = []; taken = [] }

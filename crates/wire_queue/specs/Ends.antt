-- What a contract sees of a wire's two ends.
use Rattle.std.specs.Prelude.{List}
use Rattle.wire_queue.specs.QueueIds.{QueueId}
use Rattle.wire_queue.specs.Packets.{Packet}
use Rattle.wire_queue.specs.Lines.{Line}

-- a wire: its queue, and whose it is
pub record Wire : Type 0 where
  pub queue : QueueId
  pub line : Line

-- the sender's end: its wire, and the packets that were accepted so far
pub record Sending : Type 0 where
  pub wire : Wire
  pub accepted : List Packet

-- the receiver's end: its wire, and the packets that were taken so far
pub record Taking : Type 0 where
  pub wire : Wire
  pub taken : List Packet

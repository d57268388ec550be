-- The rule of a wire: what holds at every moment of what its queue holds and of what each pass knows.
use Rattle.std.specs.Prelude.{◌≡◌, ℕ, true, List, ◌++◌, map, All}
use mathlib.Core.Option.{some}
use lib.ListN.{get_elem?}
use Rattle.wire_queue.specs.Packets.{Packet, packet_of}
use Rattle.wire_queue.specs.Lines.{Line, Fits}
use Rattle.wire_queue.specs.Logs.{Logged}
use Rattle.wire_queue.specs.declared.packet.WirePacket.{WirePacket}

-- one pass at most is the sender's end, and knows what was accepted; one at most is the receiver's, and knows what was taken
pub record Knows (line : Line) (sender taker : ℕ) (accepted taken : List Packet) (pass : ℕ) (v : Logged) : Type 0 where
  pub sends : v.sends ≡ true → (pass ≡ sender) × (v.accepted ≡ accepted) × (v.line ≡ line)
  pub takes : v.takes ≡ true → (pass ≡ taker) × (v.taken ≡ taken) × (v.line ≡ line)

-- what was accepted is what was taken and then what the queue holds, and each packet that it holds goes on this wire
pub record Ordered (items : List WirePacket) (views : List Logged) : Type 0 where
  pub line : Line
  pub sender : ℕ
  pub taker : ℕ
  pub accepted : List Packet
  pub taken : List Packet
  pub in_order : accepted ≡ taken ++ map packet_of items
  pub fit : All (Fits line) (map packet_of items)
  pub known : (pass : ℕ) (v : Logged) → get_elem? views pass ≡ some v → Knows line sender taker accepted taken pass v

-- A packet as contracts see it.
use Rattle.std.specs.Prelude.{ℕ, List, Option, Some, None, take}
use Rattle.std.specs.Arc.{arc_value}
use Rattle.wire_queue.specs.declared.packet.Body.{Body}
use Rattle.wire_queue.specs.declared.packet.Body.TheVariants.{Whole, Plain}
use Rattle.wire_queue.specs.declared.packet.WirePacket.{WirePacket}

-- a frame that is handed on, and the generation under which it is held
pub record Handed : Type 0 where
  pub frame : ℕ
  pub generation : ℕ

-- a packet: its sender, how many bytes it has, the cell of the frame that it was sent from, the frame that it hands on, if it is
-- whole, and its bytes
pub record Packet : Type 0 where
  pub from : ℕ
  pub length : ℕ
  pub cell : ℕ
  pub whole : Option Handed
  pub bytes : List ℕ

-- the page of a body
abbrev pub page_of : Body → List ℕ
page_of (Whole frame) = (arc_value frame.page).value
page_of (Plain page) = page.value

-- the frame that a body hands on, if it is whole
abbrev pub whole_of : Body → Option Handed
whole_of (Whole frame) = Some (record { frame = frame.number.0; generation = frame.generation })
whole_of (Plain page) = None

-- the packet's bytes are the first of its page
abbrev pub packet_of : WirePacket → Packet
packet_of p = record { from = p.from.0; length = p.length; cell = p.cell.0; whole = whole_of p.body; bytes = take p.length (page_of p.body) }

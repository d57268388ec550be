-- What each call on a wire answers, and what the passes know after it.
use Rattle.std.specs.Prelude.{◌≡◌, ◌≤◌, List, [], ◌∷◌, ◌++◌, length, Option, Some, None}
use Rattle.wire_queue.specs.Packets.{Packet, packet_of}
use Rattle.wire_queue.specs.Lines.{Fits}
use Rattle.wire_queue.specs.Ends.{Sending, Taking}
use Rattle.wire_queue.specs.declared.packet.WirePacket.{WirePacket}
use Rattle.wire_queue.specs.declared.wires.Sent.{Sent}
use Rattle.wire_queue.specs.declared.wires.Sent.TheVariants as sent

-- a packet was accepted; or it is handed back as it was, where the wire was full: it held 64 packets, which were accepted before
abbrev pub SentBy : Sending → WirePacket → Sent → Sending → Type 0
SentBy old packet sent.Ok new = new ≡ record old { accepted = old.accepted ++ packet_of packet ∷ [] }
SentBy old packet (sent.Full back) new = (back ≡ packet) × (new ≡ old) × (64 ≤ length old.accepted)

-- a packet that goes on this wire was taken, with all its bytes; or there was none
abbrev pub TakenBy : Taking → Option WirePacket → Taking → Type 0
TakenBy old None new = new ≡ old
TakenBy old (Some packet) new =
    (new ≡ record old { taken = old.taken ++ packet_of packet ∷ [] })
    × Fits old.wire.line (packet_of packet)
    × (length (packet_of packet).bytes ≡ packet.length)

-- the first of these packets, in order
abbrev pub AreFirstOf : List Packet → List Packet → Type 0
AreFirstOf taken accepted = (rest : List Packet) × (accepted ≡ taken ++ rest)

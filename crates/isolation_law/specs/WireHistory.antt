-- What guests send to each other, and what is taken of it.
use Rattle.std.specs.Prelude.{◌≡◌, ◌≢◌, ◌⊎◌, ℕ, suc, ◌==◌, ◌<◌, ◌≤◌, if◌then◌else◌, Bool, List, [], ◌∷◌, ◌++◌, length, flat_map, filter, Option, Some, None, slice_index_or}
use Rattle.base_words.specs.declared.events.Event.{Event}
use Rattle.base_words.specs.declared.events.Event.TheVariants.{Direct, Refill, Emulate, Begin, Ack, Finish, Load, Unload, PacketIn, Discard, Skip, CellFails, End as Ending}
use Rattle.base_words.specs.declared.events.End.TheVariants.{Budget}
use Rattle.base_words.specs.declared.input.SentPacket.{SentPacket}
use Rattle.private_machine.specs.Operation.{Packet}
use Rattle.isolation_law.specs.GuestState.{GuestState}
use Rattle.isolation_law.specs.OwnHistory.{no_packet}

-- ---- what was sent

-- a packet of the sent list and its cell, as a guest sees it to which it goes
abbrev pub packet_to : ℕ → ℕ → SentPacket → ℕ → List Packet
packet_to from to sent cell = if sent.to == to then record { from = from; cell = cell; bytes = sent.bytes } ∷ [] else []

-- the packets of a sent list that go to a guest, each with its cell, in order
abbrev pub packets_to : ℕ → ℕ → List SentPacket → List ℕ → List Packet
packets_to from to [] cells = []
packets_to from to (p ∷ sent) [] = []
packets_to from to (p ∷ sent) (cell ∷ cells) = packet_to from to p cell ++ packets_to from to sent cells

abbrev pub sent_to : GuestState → ℕ → List Packet
sent_to s to = packets_to s.around.guest to s.devices.sent s.sent_from

-- Which of these a wire accepted, where so many were accepted before: each that wasn't had 64 accepted ones before it.
abbrev pub AreAccepted : ℕ → List Packet → List Packet → Type 0
AreAccepted before [] accepted = accepted ≡ []
AreAccepted before (p ∷ sent) accepted =
    ((rest : List Packet) × (accepted ≡ p ∷ rest) × AreAccepted (suc before) sent rest)
    ⊎ ((64 ≤ before) × AreAccepted before sent accepted)

-- ---- what was taken

-- the packet of which an entry tells
abbrev pub taken_by : List Packet → List Packet → Event → List Packet
taken_by received discarded (Direct p v) = []
taken_by received discarded (Refill p) = []
taken_by received discarded (Emulate p v) = []
taken_by received discarded (Begin page kind node by) = []
taken_by received discarded (Ack p page) = []
taken_by received discarded (Finish page) = []
taken_by received discarded (Load p v) = []
taken_by received discarded (Unload p) = []
taken_by received discarded (PacketIn k) = slice_index_or received k no_packet ∷ []
taken_by received discarded (Discard k) = slice_index_or discarded k no_packet ∷ []
taken_by received discarded (Skip k) = []
taken_by received discarded (CellFails cell) = []
taken_by received discarded (Ending end) = []

abbrev pub in_hand : Option Packet → List Packet
in_hand None = []
in_hand (Some packet) = packet ∷ []

-- all packets that came to hand, in order: those of which the journal tells, and the one in hand
abbrev pub taken : List Event → GuestState → List Packet
taken journal s = flat_map (taken_by s.received s.discarded) journal ++ in_hand s.hand

-- those of one sender
abbrev pub is_from : ℕ → Packet → Bool
is_from sender packet = packet.from == sender

abbrev pub taken_from : List Event → GuestState → ℕ → List Packet
taken_from journal s sender = filter (is_from sender) (taken journal s)

-- it came from another guest of the machine
abbrev pub IsFromOther : GuestState → Packet → Type 0
IsFromOther s packet = (packet.from < length s.around.homes) × (packet.from ≢ s.around.guest)

-- the packet of which an entry tells is there
abbrev pub Tells : GuestState → Event → Type 0
Tells s (Direct p v) = Unit {0}
Tells s (Refill p) = Unit {0}
Tells s (Emulate p v) = Unit {0}
Tells s (Begin page kind node by) = Unit {0}
Tells s (Ack p page) = Unit {0}
Tells s (Finish page) = Unit {0}
Tells s (Load p v) = Unit {0}
Tells s (Unload p) = Unit {0}
Tells s (PacketIn k) = k < length s.received
Tells s (Discard k) = k < length s.discarded
Tells s (Skip k) = Unit {0}
Tells s (CellFails cell) = Unit {0}
Tells s (Ending end) = Unit {0}

-- nothing was taken
pub record TakesNothing (s t : GuestState) : Type 0 where
  pub received : t.received ≡ s.received
  pub discarded : t.discarded ≡ s.discarded
  pub hand : t.hand ≡ s.hand

-- ---- both

-- at the end a guest waits for a packet: it has neither halted nor ended by a cell, and a page is armed
abbrev pub EndsWaiting : GuestState → Type 0
EndsWaiting s = (s.end ≡ Some Budget) × (s.devices.armed ≢ None)

-- What a guest took of what another sent to it is the first of what the wire accepted; and where it waits at the end, that is all,
-- and none is in hand.
pub record MeetsWire (sender receiver : GuestState) (journal : List Event) : Type 0 where
  pub accepted : List Packet
  pub some : AreAccepted 0 (sent_to sender receiver.around.guest) accepted
  pub rest : List Packet
  pub first : accepted ≡ taken_from journal receiver sender.around.guest ++ rest
  pub all : EndsWaiting receiver → (rest ≡ []) × (receiver.hand ≡ None)

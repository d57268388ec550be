-- A guest's own part of its journal: what it can notice.
use Rattle.std.specs.Prelude.{ℕ, ◌+◌, List, [], ◌∷◌, slice_index_or}
use Rattle.base_words.specs.declared.events.Event.{Event}
use Rattle.base_words.specs.declared.events.Event.TheVariants.{Direct, Refill, Emulate, Begin, Ack, Finish, Load, Unload, PacketIn, Discard, Skip, CellFails, End as Ending}
use Rattle.base_words.specs.declared.events.OwnEvent.{OwnEvent}
use Rattle.base_words.specs.declared.events.OwnEvent.TheVariants as seen
use Rattle.private_machine.specs.Operation.{Packet}

abbrev pub no_packet : Packet
no_packet = record { from = 0; cell = 0; bytes = [] }

abbrev pub arrives : Packet → OwnEvent
arrives packet = seen.Packet (record { 0 = packet.from }) packet.bytes

-- with the packets that were received, of which an entry tells the place
abbrev pub own : List Packet → List Event → List OwnEvent
own packets [] = []
own packets (Load p v ∷ journal) = own packets journal
own packets (Unload p ∷ journal) = own packets journal
own packets (Direct p v ∷ journal) = seen.Step v ∷ own packets journal
own packets (Refill p ∷ journal) = own packets journal
own packets (Emulate p v ∷ journal) = seen.Step v ∷ own packets journal
own packets (Begin q kind node by ∷ journal) = own packets journal
own packets (Ack p q ∷ journal) = own packets journal
own packets (Finish q ∷ journal) = own packets journal
own packets (PacketIn k ∷ journal) = arrives (slice_index_or packets k no_packet) ∷ own packets journal
own packets (Discard k ∷ journal) = own packets journal
own packets (Skip k ∷ journal) = own packets journal
own packets (CellFails c ∷ journal) = own packets journal
own packets (Ending end ∷ journal) = own packets journal

-- how many own steps an entry is
abbrev pub steps_in : Event → ℕ
steps_in (Load p v) = 0
steps_in (Unload p) = 0
steps_in (Direct p v) = 1
steps_in (Refill p) = 0
steps_in (Emulate p v) = 1
steps_in (Begin q kind node by) = 0
steps_in (Ack p q) = 0
steps_in (Finish q) = 0
steps_in (PacketIn k) = 0
steps_in (Discard k) = 0
steps_in (Skip k) = 0
steps_in (CellFails c) = 0
steps_in (Ending end) = 0

abbrev pub own_steps : List Event → ℕ
own_steps [] = 0
own_steps (e ∷ journal) = steps_in e + own_steps journal

-- Packets that come to a guest, by what its calls answer.
use Rattle.std.specs.Prelude.{◌≡◌, ◌≢◌, ◌⊎◌, ℕ, List, [], ◌∷◌, ◌++◌, ◌+◌, ◌≤◌, length, Bool, true, false, Option, Some, None, Result, Ok, Err}
use Rattle.std.specs.declared.alloc.AllocError.{AllocError}
use Rattle.base_words.specs.declared.events.Event.TheVariants.{PacketIn, Begin, Finish, Discard}
use Rattle.base_words.specs.declared.ids.Ppn.{Ppn}
use Rattle.base_words.specs.declared.moves.By.TheVariants.{Packet as ByPacket}
use Rattle.base_words.specs.declared.moves.MoveKind.{MoveKind}
use Rattle.base_words.specs.declared.moves.MoveKind.TheVariants.{Migrate, Replicate, Collapse, Break, TakeShared, GiveShared}
use Rattle.frame_words.specs.FrameWords.{frame_word}
use Rattle.frame_words.specs.Refusals.{AddsShare, AddsShareRefusal}
use Rattle.frame_words.specs.declared.view.View.{View}
use Rattle.private_machine.specs.Backing.{Copy, TakesShared}
use Rattle.isolation_law.specs.GuestState.{GuestState, page, is_dead}
use Rattle.isolation_law.specs.Run.{Silent}
use Rattle.wire_queue.specs.ListSteps.{AsksInVain, SameEnds}
use Rattle.wire_queue.specs.Packets.{Handed, packet_of}
use Rattle.wire_queue.specs.PassLists.{sending_to}
use Rattle.wire_queue.specs.declared.lists.PassList.{PassList}
use Rattle.wire_queue.specs.declared.packet.WirePacket.{WirePacket}
use Rattle.guest_course.specs.Acting.{IsOwnDelivery}
use Rattle.guest_core.specs.GuestView.{Monitored, IsSameGuest}
use Rattle.guest_core.specs.Making.{Makes, Stays}
use Rattle.guest_core.specs.MoveCalls.{HasWaiting, IsDoing, is_done, StillActs}
use Rattle.guest_core.specs.Wiring.{others_of, TakesNext}
use Rattle.guest_core.specs.declared.answers.Packeted.{Packeted}
use Rattle.guest_core.specs.declared.answers.Packeted.TheVariants as packeted
use Rattle.private_machine.specs.Operation.{Packet}

-- a guest that hasn't ended waits for a packet
pub record IsArmed (g : Monitored) : Type 0 where
  pub not_ended : g.state.end ≡ None
  pub armed : g.state.devices.armed ≢ None

-- no note was made, and nothing was taken or given back
pub record NotesNothing (old new : Monitored) : Type 0 where
  pub notes : new.notes ≡ old.notes
  pub view : new.view ≡ old.view

-- the frame that a packet hands on, which was in hand, or was taken from a wire after others were asked in vain
pub record TakesFromWire (old new : PassList) (handed : Option Handed) : Type 0 where
  pub packet : WirePacket
  pub takes : TakesNext old packet new
  pub hands_on : handed ≡ (packet_of packet).whole

abbrev pub HandsOn : Monitored → PassList → Option Handed → Type 0
HandsOn old passes handed = ((old.state.hand ≢ None) × (handed ≡ old.handed)) ⊎ ((old.state.hand ≡ None) × TakesFromWire old.passes passes handed)

-- a packet came to hand, or nothing changed; either makes no entry. Where none was in hand and none came, each other guest's wire was asked.
pub record Fetches (old new : Monitored) : Type 0 where
  pub quiet : NotesNothing old new
  pub journal : new.journal ≡ old.journal
  pub silent : Silent old.state new.state
  pub hands_on : new.state.hand ≢ None → HandsOn old new.passes new.handed
  pub asked : old.state.hand ≡ None → new.state.hand ≡ None → AsksInVain old.passes new.passes (others_of old.passes)

-- why a packet is copied into a page: it hands on no frame, or the word of that frame refused
abbrev pub CopiesPacket : Option Handed → View → View → Type 0
CopiesPacket None old new = new ≡ old
CopiesPacket (Some frame) old new = AddsShareRefusal old (frame_word frame.frame) frame.generation new

-- the packet was copied into the page, which had no move; or it ended the move by which the page was taken shared for it
abbrev pub ComesInto : Monitored → ℕ → Option Handed → Monitored → Type 0
ComesInto old q handed new = (((page old.state q).move ≡ None) × CopiesPacket handed old.view new.view) ⊎ IsOwnDelivery old.state q

-- the frame that the packet hands on is held once more, and the page is taken shared with it
pub record TakesWhole (handed : Option Handed) (t : GuestState) (q : ℕ) (old new : View) : Type 0 where
  pub copy : Copy
  pub hands_on : handed ≡ Some (record { frame = copy.frame; generation = copy.generation })
  pub adds : AddsShare old (frame_word copy.frame) copy.generation new
  pub into : IsDoing t q (TakesShared copy)

-- what was asked of the frame that the packet hands on before this move began
abbrev pub BeginsOver : MoveKind → Option Handed → GuestState → ℕ → View → View → Type 0
BeginsOver Migrate handed t q old new = ⊥
BeginsOver Replicate handed t q old new = ⊥
BeginsOver Collapse handed t q old new = CopiesPacket handed old new
BeginsOver Break handed t q old new = CopiesPacket handed old new
BeginsOver TakeShared handed t q old new = TakesWhole handed t q old new
BeginsOver GiveShared handed t q old new = ⊥

-- the packet in hand was received; the page isn't armed any more
pub record ReceivesNext (old new : Monitored) : Type 0 where
  pub makes : Makes old (PacketIn (length old.state.received) ∷ []) new
  pub not_ended : new.state.end ≡ None
  pub disarmed : new.state.devices.armed ≡ None

-- a move of the page has begun that the packet in hand needs
pub record BeginsByHand (old : Monitored) (q : Ppn) (kind : MoveKind) (new : Monitored) : Type 0 where
  pub makes : Makes old (Begin q kind (record { 0 = old.state.around.home }) ByPacket ∷ []) new
  pub hand : new.state.hand ≡ old.state.hand
  pub handed : new.handed ≡ old.handed
  pub not_ended : new.state.end ≡ None

-- the page begins to be taken shared; or all but the looks at the frame is as it was
pub record TakesHanded (old : Monitored) (q : Ppn) (new : Monitored) : Type 0 where
  pub begins : BeginsByHand old q TakeShared new
  pub over : TakesWhole old.handed new.state q.0 old.view new.view

pub record RefusesHanded (old new : Monitored) : Type 0 where
  pub same : new ≡ record old { view = new.view }
  pub copies : CopiesPacket old.handed old.view new.view

abbrev pub SharesPacket : Monitored → Ppn → Monitored → Bool → Type 0
SharesPacket old q new true = TakesHanded old q new
SharesPacket old q new false = RefusesHanded old new

-- what a call leaves for which a packet was in hand
pub record AfterHand (old new : Monitored) : Type 0 where
  pub notes : new.notes ≡ old.notes
  pub passes : new.passes ≡ old.passes
  pub acts : StillActs old new
  pub same : IsSameGuest old new
  pub room : old.room ≤ new.room + 2

-- a packet was received, which was in hand or came to hand
pub record Delivers (old new : Monitored) : Type 0 where
  pub notes : new.notes ≡ old.notes
  pub handed : Option Handed
  pub hands_on : HandsOn old new.passes handed
  pub q : ℕ
  pub armed : old.state.devices.armed ≡ Some q
  pub comes : ComesInto old q handed new
  pub makes : Makes old (PacketIn (length old.state.received) ∷ []) new
  pub not_ended : new.state.end ≡ None
  pub disarmed : new.state.devices.armed ≡ None

-- a packet was thrown away, which was in hand or came to hand, as this cell of it has failed
pub record DiscardsNext (old : Monitored) (cell : ℕ) (new : Monitored) : Type 0 where
  pub armed : IsArmed old
  pub notes : new.notes ≡ old.notes
  pub view : new.view ≡ old.view
  pub packet : Packet
  pub of_cell : packet.cell ≡ cell
  pub dead : is_dead old.state cell ≡ true
  pub thrown : new.state.discarded ≡ old.state.discarded ++ packet ∷ []
  pub makes : Makes old (Discard (length old.state.discarded) ∷ []) new
  pub not_ended : new.state.end ≡ None
  pub free : new.state.hand ≡ None

-- a packet is in hand, which was there or came to hand and whose cell lives, for the page that is armed
pub record HasInHand (old : Monitored) (q : ℕ) (new : Monitored) : Type 0 where
  pub not_ended : old.state.end ≡ None
  pub goes_on : new.state.end ≡ None
  pub armed : old.state.devices.armed ≡ Some q
  pub in_hand : new.state.hand ≢ None
  pub lives : (packet : Packet) → new.state.hand ≡ Some packet → is_dead old.state packet.cell ≡ false
  pub hands_on : HandsOn old new.passes new.handed
  pub notes : new.notes ≡ old.notes

-- the page needs a move first, which has begun
pub record BeginsForPacket (old : Monitored) (q : Ppn) (new : Monitored) : Type 0 where
  pub has : HasInHand old q.0 new
  pub kind : MoveKind
  pub over : BeginsOver kind new.handed new.state q.0 old.view new.view
  pub makes : Makes old (Begin q kind (record { 0 = old.state.around.home }) ByPacket ∷ []) new

-- its move, for which nobody waited and which wasn't for the packet, is done
pub record FinishesForPacket (old : Monitored) (q : Ppn) (new : Monitored) : Type 0 where
  pub has : HasInHand old q.0 new
  pub done : is_done (page old.state q.0).move ≡ true
  pub other : IsOwnDelivery old.state q.0 → ⊥
  pub makes : Makes old (Finish q ∷ []) new

-- its move waits for these processors
pub record WaitsWithPacket (old : Monitored) (q : Ppn) (set : List Bool) (new : Monitored) : Type 0 where
  pub has : HasInHand old q.0 new
  pub waiting : HasWaiting new.state q.0 set
  pub makes : Makes old [] new
  pub view : new.view ≡ old.view

-- none is in hand, and the wire from each other guest was asked and gave none
pub record HasNoPacket (old new : Monitored) : Type 0 where
  pub armed : IsArmed old
  pub none : old.state.hand ≡ None
  pub asked : AsksInVain old.passes new.passes (others_of old.passes)
  pub stays : Stays old new
  pub handed : new.handed ≡ old.handed
  pub notes : new.notes ≡ old.notes

pub record WaitsForNone (old new : Monitored) : Type 0 where
  pub unarmed : IsArmed old → ⊥
  pub same : new ≡ old

-- where memory is wanting the packet stays in hand
pub record KeepsInHand (old new : Monitored) : Type 0 where
  pub armed : IsArmed old
  pub notes : new.notes ≡ old.notes
  pub hands_on : HandsOn old new.passes new.handed
  pub view : (new.view ≡ old.view) ⊎ CopiesPacket new.handed old.view new.view
  pub not_ended : new.state.end ≡ None
  pub makes : Makes old [] new
  pub in_hand : new.state.hand ≢ None

abbrev pub TakesPacket : Monitored → Monitored → Result Packeted AllocError → Type 0
TakesPacket old new (Ok packeted.Delivered) = IsArmed old × Delivers old new
TakesPacket old new (Ok (packeted.Discarded cell)) = DiscardsNext old cell.0 new
TakesPacket old new (Ok (packeted.Begun q)) = BeginsForPacket old q new
TakesPacket old new (Ok (packeted.Finished q)) = FinishesForPacket old q new
TakesPacket old new (Ok (packeted.Waits q waiting)) = WaitsWithPacket old q waiting new
TakesPacket old new (Ok packeted.NoneInHand) = HasNoPacket old new
TakesPacket old new (Ok packeted.NotArmed) = WaitsForNone old new
TakesPacket old new (Err e) = KeepsInHand old new

-- nothing has changed, and the ends of the wires tell the same
pub record KeepsEnds (old new : Monitored) : Type 0 where
  pub same : IsSameGuest old new
  pub handed : new.handed ≡ old.handed
  pub stays : Stays old new
  pub notes : new.notes ≡ old.notes
  pub room : new.room ≡ old.room
  pub ends : SameEnds old.passes new.passes

-- the ends by which a guest sends tell the same
pub record SameSends (old new : PassList) : Type 0 where
  pub guest : new.guest ≡ old.guest
  pub sends : (to : ℕ) → sending_to new to ≡ sending_to old to

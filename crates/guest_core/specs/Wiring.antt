-- A guest's ends of its wires, against what it sent and what it took.
use Rattle.std.specs.Prelude.{◌≡◌, ◌<◌, ◌==◌, ◌&&◌, not, nat_le, nat_lt, Bool, ℕ, List, [], length, map, All, Option, Some, None, slice_get}
use Rattle.base_words.specs.declared.events.Event.{Event}
use Rattle.private_machine.specs.Operation.{Packet}
use Rattle.isolation_law.specs.GuestState.{GuestState}
use Rattle.isolation_law.specs.Surroundings.{Surroundings, home_cell}
use Rattle.isolation_law.specs.WireHistory.{sent_to, AreAccepted, taken_from, Tells}
use Rattle.wire_queue.specs.Between.{Made, guest_count}
use Rattle.wire_queue.specs.Ends.{Sending, Taking}
use Rattle.wire_queue.specs.ListSteps.{AsksInVain, SameEnds, SendsTo, TakesFrom}
use Rattle.wire_queue.specs.Packets.{Packet as OnWire}
use Rattle.wire_queue.specs.PassLists.{IsListOf, JoinsAll, sending_to, taking_from}
use Rattle.wire_queue.specs.declared.lists.PassList.{PassList}
use Rattle.wire_queue.specs.declared.packet.WirePacket.{WirePacket}
use Rattle.wire_queue.specs.declared.wires.Sent.{Sent}
use Rattle.guest_course.specs.declared.posting.Outgoing.{Outgoing}
use Rattle.guest_course.specs.Posting.{AreTermsOf}

-- a packet of a wire, as a guest sees it
abbrev pub shown : OnWire → Packet
shown packet = record { from = packet.from; cell = packet.cell; bytes = packet.bytes }

-- the guest has its end of each of these wires, and there is one to each other guest and one from it; their terms are those of the machine
-- around it, in which its own home cell is the one that all are told of
pub record IsWired (wires : Made) (passes : PassList) (w : Surroundings) : Type 0 where
  pub list : IsListOf wires passes
  pub joins : JoinsAll wires
  pub guests : guest_count wires ≡ length w.homes
  pub number : passes.guest.0 ≡ w.guest
  pub is_guest : passes.guest.0 < guest_count wires
  pub terms : AreTermsOf w wires.terms
  pub at_home : slice_get w.homes w.guest ≡ Some (home_cell w)

-- what was taken from an end, and nothing where there is no wire
abbrev pub taken_at : Option Taking → List OnWire
taken_at None = []
taken_at (Some end) = end.taken

-- Its wires accepted some of what it sent to each guest; and what it took from each wire is all that came from that guest.
pub record Posted (s : GuestState) (journal : List Event) (passes : PassList) : Type 0 where
  pub tells : All (Tells s) journal
  pub sent : (to : ℕ) (end : Sending) → sending_to passes to ≡ Some end → AreAccepted 0 (sent_to s to) (map shown end.accepted)
  pub taken : (from : ℕ) → map shown (taken_at (taking_from passes from)) ≡ taken_from journal s from

-- what goes out was put on its wire, or comes back
abbrev pub SentOn : PassList → Option Outgoing → PassList → Type 0
SentOn old None new = SameEnds old new
SentOn old (Some out) new = (answer : Sent) × SendsTo old out.to.0 out.packet answer new

-- another guest than this one, whose number is from the first on and below the end
abbrev pub is_other_in : ℕ → ℕ → ℕ → ℕ → Bool
is_other_in own first end other = nat_le first other && (nat_lt other end && not (other == own))

-- each other guest
abbrev pub others_of : PassList → ℕ → Bool
others_of passes = is_other_in passes.guest.0 0 (length passes.takes.items)

-- a packet was taken from one of the wires, after others were asked in vain
pub record TakesNext (old : PassList) (packet : WirePacket) (new : PassList) : Type 0 where
  pub asked : ℕ → Bool
  pub mid : PassList
  pub vain : AsksInVain old mid asked
  pub from : ℕ
  pub takes : TakesFrom mid from (Some packet) new

-- or the wire from each other guest was asked, and gave none
abbrev pub TakenOn : PassList → Option WirePacket → PassList → Type 0
TakenOn old None new = AsksInVain old new (others_of old)
TakenOn old (Some packet) new = TakesNext old packet new

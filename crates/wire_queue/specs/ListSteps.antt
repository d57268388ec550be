-- What a guest's calls on its passes answer, and what they leave.
use Rattle.std.specs.Prelude.{◌≡◌, ◌≢◌, ◌↔◌, ℕ, ◌+◌, ◌-◌, ◌≤◌, ◌^◌, ◌==◌, if◌then◌else◌, min, Bool, true, IsTrue, Option, Some}
use Rattle.wire_queue.specs.Ends.{Sending, Taking}
use Rattle.wire_queue.specs.Steps.{SentBy, TakenBy, AreFirstOf}
use Rattle.wire_queue.specs.PassLists.{sending_to, taking_from, asks_of}
use Rattle.wire_queue.specs.declared.packet.WirePacket.{WirePacket}
use Rattle.wire_queue.specs.declared.lists.PassList.{PassList}
use Rattle.wire_queue.specs.declared.wires.Sent.{Sent}

-- how often a wire was asked, as far as a count goes, and with one time more
abbrev pub asked_so_far : ℕ → ℕ
asked_so_far asks = min asks (2 ^ 64 - 1)

abbrev pub asked_again : ℕ → ℕ
asked_again asks = min (asks + 1) (2 ^ 64 - 1)

-- at most the end of the wire to this guest is another
pub record SendsOnly (old new : PassList) (to : ℕ) : Type 0 where
  pub guest : new.guest ≡ old.guest
  pub asks : new.asks ≡ old.asks
  pub sends : (other : ℕ) → other ≢ to → sending_to new other ≡ sending_to old other
  pub takes : (other : ℕ) → taking_from new other ≡ taking_from old other

-- at most the end of the wire from this guest is another
pub record TakesOnly (old new : PassList) (from : ℕ) : Type 0 where
  pub guest : new.guest ≡ old.guest
  pub asks : (other : ℕ) → asks_of new other ≡ (if other == from then asked_again (asks_of old from) else asks_of old other)
  pub sends : (other : ℕ) → sending_to new other ≡ sending_to old other
  pub takes : (other : ℕ) → other ≢ from → taking_from new other ≡ taking_from old other

-- a packet was put on the wire to a guest, or comes back
pub record SendsTo (old : PassList) (to : ℕ) (packet : WirePacket) (answer : Sent) (new : PassList) : Type 0 where
  pub before : Sending
  pub after : Sending
  pub was : sending_to old to ≡ Some before
  pub is : sending_to new to ≡ Some after
  pub sent : SentBy before packet answer after
  pub only : SendsOnly old new to

-- a packet was taken from the wire from a guest, or there was none
pub record TakesFrom (old : PassList) (from : ℕ) (answer : Option WirePacket) (new : PassList) : Type 0 where
  pub before : Taking
  pub after : Taking
  pub was : taking_from old from ≡ Some before
  pub is : taking_from new from ≡ Some after
  pub taken : TakenBy before answer after
  pub only : TakesOnly old new from

-- the wires from these guests were asked, each at least once, and all ends stay
pub record AsksInVain (old new : PassList) (these : ℕ → Bool) : Type 0 where
  pub guest : new.guest ≡ old.guest
  pub asks : (other : ℕ) → these other ≡ true → asked_again (asks_of old other) ≤ asks_of new other
  pub others : (other : ℕ) → asked_so_far (asks_of old other) ≤ asks_of new other
  pub sends : (other : ℕ) → sending_to new other ≡ sending_to old other
  pub takes : (other : ℕ) → taking_from new other ≡ taking_from old other

-- all ends stay, and no wire was asked
pub record SameEnds (old new : PassList) : Type 0 where
  pub guest : new.guest ≡ old.guest
  pub asks : new.asks ≡ old.asks
  pub sends : (other : ℕ) → sending_to new other ≡ sending_to old other
  pub takes : (other : ℕ) → taking_from new other ≡ taking_from old other

-- whether a guest has taken all that the wire from another guest accepted
pub record HasTaken (receiver sender : PassList) (answer : Bool) : Type 0 where
  pub end : Sending
  pub other : Taking
  pub sends : sending_to sender receiver.guest.0 ≡ Some end
  pub takes : taking_from receiver sender.guest.0 ≡ Some other
  pub all : IsTrue answer ↔ (other.taken ≡ end.accepted)
  pub first : AreFirstOf other.taken end.accepted

-- Packets: one comes to hand, and is delivered or thrown away.
use Rattle.std.specs.Prelude.{◌≡◌, ℕ, ◌≤◌, Bool, true, false, List, [], ◌∷◌, ◌++◌, length, Some, None}
use Rattle.base_words.specs.Membership.{HasNone}
use Rattle.private_machine.specs.Backing.{Copy, TakesShared, with_first}
use Rattle.private_machine.specs.Operation.{Packet, Delivers}
use Rattle.private_machine.specs.Packet.{own_packet}
use Rattle.isolation_law.specs.GuestState.{GuestState, page, is_dead, with_page, hand_place, operation_of}
use Rattle.isolation_law.specs.Content.{content, with_own}
use Rattle.isolation_law.specs.Needs.{for_packet}
use Rattle.isolation_law.specs.Phases.{GoesOn}
use Rattle.isolation_law.specs.StepRows.{taken_shared}

-- A packet comes to hand with no entry, where a page is armed and none is in hand.
pub record ComesToHand (s t : GuestState) : Type 0 where
  pub goes_on : GoesOn s
  pub free : s.hand ≡ None
  pub q : ℕ
  pub armed : s.devices.armed ≡ Some q
  pub packet : Packet
  pub not_empty : 1 ≤ length packet.bytes
  pub within : length packet.bytes ≤ 4096
  pub after : t ≡ record s { hand = Some packet }

-- the packet in hand goes into page q
pub record IsDelivered (s : GuestState) (k q : ℕ) (packet : Packet) : Type 0 where
  pub goes_on : GoesOn s
  pub armed : s.devices.armed ≡ Some q
  pub in_hand : s.hand ≡ Some packet
  pub lives : is_dead s packet.cell ≡ false
  pub next : k ≡ length s.received

abbrev pub with_received : GuestState → Packet → GuestState → GuestState
with_received s packet t =
    record (with_own (own_packet (content s) packet.from packet.bytes) t) { hand = None; received = s.received ++ packet ∷ [] }

-- It is copied into the page, which needs no move.
pub record Receives (s : GuestState) (k : ℕ) (t : GuestState) : Type 0 where
  pub q : ℕ
  pub packet : Packet
  pub delivered : IsDelivered s k q packet
  pub shares : Bool
  pub needs_nothing : for_packet s shares packet q ≡ None
  pub after : t ≡ with_received s packet (with_page s q (with_first packet.bytes (page s q)))

-- It ends the move that was for it, which is told by its place.
pub record EndsDelivery (s : GuestState) (k : ℕ) (t : GuestState) : Type 0 where
  pub q : ℕ
  pub packet : Packet
  pub delivered : IsDelivered s k q packet
  pub target : Copy
  pub kept : Packet
  pub waiting : List Bool
  pub open_move : (page s q).move ≡ Some (record { change = TakesShared target; waiting = waiting })
  pub its_own : operation_of s q ≡ Some (Delivers (hand_place s) kept)
  pub nobody_waits : HasNone waiting
  pub after : t ≡ with_received s packet (taken_shared q target s)

-- The packet in hand is thrown away, as its cell has failed.
pub record Discards (s : GuestState) (k : ℕ) (t : GuestState) : Type 0 where
  pub goes_on : GoesOn s
  pub packet : Packet
  pub in_hand : s.hand ≡ Some packet
  pub failed : is_dead s packet.cell ≡ true
  pub next : k ≡ length s.discarded
  pub after : t ≡ record s { hand = None; discarded = s.discarded ++ packet ∷ [] }

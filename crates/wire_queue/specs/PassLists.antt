-- Which passes a guest has, and all passes of all guests.
use Rattle.std.specs.Prelude.{◌≡◌, ◌≢◌, ℕ, ◌<◌, List, [], Option, None, length, slice_index, slice_index_or, IsSome, IfSome, All}
use Rattle.std.specs.Option.{option_map}
use Rattle.wire_queue.specs.Ends.{Wire, Sending, Taking}
use Rattle.wire_queue.specs.Between.{Made, guest_count, wire_between}
use Rattle.wire_queue.specs.PassTables.{guests_of}
use Rattle.wire_queue.specs.declared.lists.PassList.{PassList}

-- the wire of an end, if there is one
abbrev pub sending_wire : Option Sending → Option Wire
sending_wire end = option_map (λ p. p.wire) end

abbrev pub taking_wire : Option Taking → Option Wire
taking_wire end = option_map (λ p. p.wire) end

-- a guest's end of the wire to another guest, and of the wire from it, if there are such wires
abbrev pub sending_to : PassList → ℕ → Option Sending
sending_to list other = slice_index_or list.sends.items other None

abbrev pub taking_from : PassList → ℕ → Option Taking
taking_from list other = slice_index_or list.takes.items other None

-- how often a guest asked the wire from another guest for a packet, as far as its count goes
abbrev pub asks_of : PassList → ℕ → ℕ
asks_of list other = slice_index_or list.asks.items other 0

-- the list has its guest's end of each of these wires that leads to it or from it, and no other, and counts its asks of each
pub record IsListOf (wires : Made) (list : PassList) : Type 0 where
  pub sends_all : length list.sends.items ≡ guest_count wires
  pub takes_all : length list.takes.items ≡ guest_count wires
  pub asks_all : length list.asks.items ≡ guest_count wires
  pub sends : (other : ℕ) → sending_wire (sending_to list other) ≡ wire_between wires list.guest.0 other
  pub takes : (other : ℕ) → taking_wire (taking_from list other) ≡ wire_between wires other list.guest.0

-- there is one list a guest, in order
pub record AreAllOf (wires : Made) (lists : List PassList) : Type 0 where
  pub all : length lists ≡ guest_count wires
  pub numbered : (guest : ℕ) → guest < guest_count wires → slice_index (guests_of lists) guest ≡ guest
  pub each : All (IsListOf wires) lists

-- nothing was accepted and nothing taken yet
pub record IsUnused (list : PassList) : Type 0 where
  pub sends : (other : ℕ) → IfSome (sending_to list other) (λ p. p.accepted ≡ [])
  pub takes : (other : ℕ) → IfSome (taking_from list other) (λ p. p.taken ≡ [])

-- there is a wire from each guest to each other, and none from a guest to itself
pub record JoinsAll (wires : Made) : Type 0 where
  pub others : (from to : ℕ) → from < guest_count wires → to < guest_count wires → from ≢ to → IsSome (wire_between wires from to)
  pub itself : (guest : ℕ) → wire_between wires guest guest ≡ None

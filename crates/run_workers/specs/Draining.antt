-- What is left on the wires once no guest runs any more.
use Rattle.std.specs.Prelude.{◌≡◌, ◌≢◌, ℕ, List, length, None, Some, true, slice_get}
use Rattle.wire_queue.specs.ListSteps.{HasTaken}
use Rattle.guest_core.specs.GuestView.{Monitored, Shared, IsSameGuest}
use Rattle.guest_core.specs.PacketCalls.{IsArmed, KeepsEnds, SameSends}

-- a guest that waits for a packet has none in hand
abbrev pub HasNone : Monitored → Type 0
HasNone g = IsArmed g → g.state.hand ≡ None

-- and has taken all that another guest sent to it
abbrev pub HasAllOf : Monitored → Monitored → Type 0
HasAllOf g sender = IsArmed g → HasTaken g.passes sender.passes true

-- packets may have come to a guest
pub record Receives (old new : Monitored) : Type 0 where
  pub same : IsSameGuest old new
  pub end : new.state.end ≡ old.state.end
  pub sends : SameSends old.passes new.passes

-- guests that were only asked
pub record AreKept (old new : List Monitored) : Type 0 where
  pub count : length new ≡ length old
  pub each : (i : ℕ) (g h : Monitored) → slice_get old i ≡ Some g → slice_get new i ≡ Some h → KeepsEnds g h

-- a guest has taken all that these sent to it
abbrev pub HasAll : Monitored → List Monitored → Type 0
HasAll g others = (i : ℕ) (sender : Monitored) → slice_get others i ≡ Some sender → HasAllOf g sender

-- guests of the same wires as these, and none of them is this one
pub record AreOthers (shared : Shared) (g : Monitored) (others : List Monitored) : Type 0 where
  pub wires : (i : ℕ) (h : Monitored) → slice_get others i ≡ Some h → h.wires ≡ shared.wires
  pub apart : (i : ℕ) (h : Monitored) → slice_get others i ≡ Some h → h.passes.guest.0 ≢ g.passes.guest.0

-- whoever waits for a packet has none in hand, and has taken all that each other guest sent to it
pub record AreDrained (gs : List Monitored) : Type 0 where
  pub none : (i : ℕ) (g : Monitored) → slice_get gs i ≡ Some g → HasNone g
  pub all : (i j : ℕ) (g h : Monitored) → slice_get gs i ≡ Some g → slice_get gs j ≡ Some h → i ≢ j → HasAllOf g h

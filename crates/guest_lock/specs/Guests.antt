-- The guests of a run, in order.
use Rattle.std.specs.Prelude.{◌≡◌, ◌≢◌, ℕ, ◌+◌, ◌≤◌, List, [], ◌∷◌, min, length, Option, Some, None, Bool, true, false, nat_lt, slice_get}
use Rattle.atomic_table.specs.Seated.{TableId}
use Rattle.base_words.specs.declared.events.End.TheVariants.{Budget}
use Rattle.isolation_law.specs.Start.{Boot}
use Rattle.guest_core.specs.GuestView.{Monitored, Shared, AreOf}

-- the guest of that number of the run, which hasn't ended for the end of the plan
pub record IsGuestOf (starts : List Boot) (board : TableId) (shared : Shared) (number : ℕ) (g : Monitored) : Type 0 where
  pub number_is : g.number ≡ number
  pub start_is : slice_get starts number ≡ Some g.start
  pub board_is : g.board ≡ board
  pub shared_is : AreOf shared g
  pub own_is : g.passes.guest.0 ≡ number
  pub goes_on : g.state.end ≢ Some Budget

-- these are all guests of the run from that number on
abbrev pub GuestsFrom : List Boot → TableId → Shared → ℕ → List Monitored → Type 0
GuestsFrom starts board shared number [] = length starts ≤ number
GuestsFrom starts board shared number (g ∷ guests) = IsGuestOf starts board shared number g × GuestsFrom starts board shared (number + 1) guests

-- a cell has a guest just where the run has one of that number
abbrev pub has_guest : {A : Type 0} → Option A → Bool
has_guest None = false
has_guest (Some cell) = true

abbrev pub IsThere : {A : Type 0} → Option A → ℕ → List Boot → Type 0
IsThere cell number starts = has_guest cell ≡ nat_lt number (length starts)

-- these are all guests of the run below that number
pub record GuestsBelow (starts : List Boot) (board : TableId) (shared : Shared) (number : ℕ) (guests : List Monitored) : Type 0 where
  pub each : (i : ℕ) (g : Monitored) → slice_get guests i ≡ Some g → IsGuestOf starts board shared i g
  pub count : length guests ≡ min number (length starts)

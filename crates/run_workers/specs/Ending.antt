-- What the guests of a run leave at its end.
use Rattle.std.specs.Prelude.{◌≡◌, ◌≢◌, ℕ, ◌+◌, ◌<◌, List, [], ◌∷◌, length, All, Some, None, true, slice_get}
use Rattle.atomic_table.specs.Seated.{TableId}
use Rattle.shootdown.specs.declared.view.SidedNote.{SidedNote}
use Rattle.shootdown.specs.Notes.{Seat}
use Rattle.isolation_law.specs.GuestState.{GuestState}
use Rattle.isolation_law.specs.Start.{Boot}
use Rattle.isolation_law.specs.WireHistory.{EndsWaiting}
use Rattle.guest_core.specs.GuestView.{Monitored}
use Rattle.guest_core.specs.Noting.{IsNoted}
use Rattle.guest_core.specs.PacketCalls.{IsArmed}
use Rattle.guest_core.specs.Records.{IsRecord}
use Rattle.guest_core.specs.Wiring.{IsWired, Posted}
use Rattle.wire_queue.specs.Between.{Made}
use Rattle.wire_queue.specs.ListSteps.{HasTaken}
use Rattle.wire_queue.specs.declared.lists.PassList.{PassList}
use Rattle.guest_core.specs.declared.records.GuestRecord.{GuestRecord}

-- a guest's record and its seat, with its last state
pub record Leaves (start : Boot) (board : TableId) (number : ℕ) (state : GuestState) (left : GuestRecord) (seat : Seat) : Type 0 where
  pub record_is : IsRecord start state left
  pub number_is : seat.number ≡ number
  pub board_is : seat.board ≡ board
  pub notes : IsNoted state left.journal.entries seat.notes
  pub sides : All (λ (n : SidedNote). n.side < length start.around.processors) seat.notes

-- a guest's ends of the wires tell what it sent and took
pub record Told (start : Boot) (wires : Made) (state : GuestState) (left : GuestRecord) (passes : PassList) : Type 0 where
  pub around : state.around ≡ start.around
  pub wired : IsWired wires passes start.around
  pub posted : Posted state left.journal.entries passes

-- its end has changed neither its ends of the wires nor what it waits for
pub record EndsSo (guest : Monitored) (state : GuestState) (passes : PassList) : Type 0 where
  pub same : passes ≡ guest.passes
  pub armed : EndsWaiting state → IsArmed guest
  pub hand : EndsWaiting state → state.hand ≡ guest.state.hand

-- what a guest leaves
pub record HasLeft (guest : Monitored) (left : GuestRecord) (passes : PassList) (seat : Seat) : Type 0 where
  pub state : GuestState
  pub leaves : Leaves guest.start guest.board guest.number state left seat
  pub told : Told guest.start guest.wires state left passes
  pub ends : EndsSo guest state passes

-- those of the first guests of a run, in order
abbrev pub AreLeft : List Boot → TableId → ℕ → List GuestState → List GuestRecord → List Seat → Type 0
AreLeft starts board number [] [] [] = Unit {0}
AreLeft starts board number (state ∷ states) (left ∷ lefts) (seat ∷ seats) =
    ((start : Boot) × (slice_get starts number ≡ Some start) × Leaves start board number state left seat)
    × AreLeft starts board (number + 1) states lefts seats
AreLeft starts board number states lefts seats = ⊥

-- and their ends of the wires
abbrev pub AllTold : List Boot → Made → ℕ → List GuestState → List GuestRecord → List PassList → Type 0
AllTold starts wires number [] [] [] = Unit {0}
AllTold starts wires number (state ∷ states) (left ∷ lefts) (passes ∷ lists) =
    ((start : Boot) × (slice_get starts number ≡ Some start) × Told start wires state left passes)
    × AllTold starts wires (number + 1) states lefts lists
AllTold starts wires number states lefts lists = ⊥

-- whoever waits for a packet at the end has none in hand, and has taken all that each other guest sent to it
pub record EndDrained (states : List GuestState) (lists : List PassList) : Type 0 where
  pub none : (i : ℕ) (s : GuestState) → slice_get states i ≡ Some s → EndsWaiting s → s.hand ≡ None
  pub all : (i j : ℕ) (s : GuestState) (receiver sender : PassList) → slice_get states i ≡ Some s → slice_get lists i ≡ Some receiver → slice_get lists j ≡ Some sender → i ≢ j → EndsWaiting s → HasTaken receiver sender true

-- those of all guests of a run
pub record AllLeft (starts : List Boot) (board : TableId) (wires : Made) (lefts : List GuestRecord) (lists : List PassList) (seats : List Seat) : Type 0 where
  pub states : List GuestState
  pub each : AreLeft starts board 0 states lefts seats
  pub told : AllTold starts wires 0 states lefts lists
  pub drained : EndDrained states lists
  pub count : length lefts ≡ length starts

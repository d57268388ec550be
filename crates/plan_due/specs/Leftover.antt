-- What workers and guests leave, once tokens and seats are closed.
use Rattle.std.specs.Prelude.{◌≡◌, ℕ, ◌<◌, ◌≤◌, List, length, All, Some, slice_get, count_by}
use Rattle.shootdown.specs.Notes.{Token, Seat, AreInStep}
use Rattle.isolation_law.specs.Run.{Run}
use Rattle.isolation_law.specs.Start.{Boot, start}
use Rattle.isolation_law.specs.Surroundings.{cell_of_processor}
use Rattle.guest_core.specs.Noting.{IsNoted}
use Rattle.shootdown.specs.declared.view.SidedNote.{SidedNote}
use Rattle.plan_due.specs.Planned.{Work, Runs, Asks, Fails, Planned, is_fail_of}
use Rattle.plan_due.specs.PlanDue.{Left}
use Rattle.plan_due.specs.Slices.{Machine, own, AreTold}
use Rattle.plan_due.specs.Dealt.{queue_of}
use Rattle.plan_due.specs.declared.outcome.Outcome.{Outcome}

-- the run has the guest of an item
abbrev pub HasGuest : List Left → Work → Type 0
HasGuest guests (Runs g v steps) = (guest : Left) × (slice_get guests g ≡ Some guest)
HasGuest guests (Asks g wish) = (guest : Left) × (slice_get guests g ≡ Some guest)
HasGuest guests (Fails c) = Unit {0}

pub record IsPlace (processors : ℕ) (guests : List Left) (item : Planned) : Type 0 where
  pub on : item.processor < processors
  pub guest : HasGuest guests item.work

-- a guest with its seat: its journal is a run from its start, and its notes are in step with that
pub record HasLeft (m : Machine) (processors g : ℕ) (guest : Left) (seats : List Seat) : Type 0 where
  pub boot : Boot
  pub seat : Seat
  pub there : slice_get seats g ≡ Some seat
  pub number : seat.number ≡ g
  pub run : Run (start boot) guest.journal guest.state
  pub noted : IsNoted guest.state guest.journal seat.notes
  pub sides : All (λ (n : SidedNote). n.side < processors) seat.notes
  pub cells : (p : ℕ) → cell_of_processor guest.state.around p ≡ m.cell_at p

pub record Leftover (m : Machine) (plan : List Planned) (tokens : List Token) (queues : List (List Outcome)) (guests : List Left) (seats : List Seat) : Type 0 where
  pub numbers : (p : ℕ) (t : Token) → slice_get tokens p ≡ Some t → t.number ≡ p
  pub told : (p : ℕ) (t : Token) → slice_get tokens p ≡ Some t → AreTold m (own p plan) (queue_of queues p) t.notes
  pub queues_are : length queues ≡ length tokens
  pub left : (g : ℕ) (guest : Left) → slice_get guests g ≡ Some guest → HasLeft m (length tokens) g guest seats
  pub in_step : AreInStep tokens seats
  pub places : All (IsPlace (length tokens) guests) plan
  pub many : m.guests ≡ length guests
  pub once : (c : ℕ) → count_by (is_fail_of c) plan ≤ 1

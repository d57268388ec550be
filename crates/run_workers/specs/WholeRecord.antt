-- The whole record of a run.
use Rattle.std.specs.Prelude.{◌≡◌, ◌≢◌, ℕ, List, [], ◌∷◌, All, Some, slice_get}
use Rattle.isolation_law.specs.GuestState.{GuestState}
use Rattle.isolation_law.specs.Start.{Boot}
use Rattle.isolation_law.specs.WireHistory.{IsFromOther, MeetsWire, taken}
use Rattle.machine_desc.specs.Described.{Described}
use Rattle.guest_core.specs.declared.records.GuestRecord.{GuestRecord}
use Rattle.guest_core.specs.declared.records.RunRecord.{RunRecord}
use Rattle.guest_core.specs.Records.{IsRecord}
use Rattle.plan_due.specs.Planned.{planned}
use Rattle.plan_due.specs.PlanDue.{Left, IsDue, slices_of, failures_of}
use Rattle.plan_due.specs.declared.outcome.Outcome.{Outcome}
use Rattle.machine_desc.specs.declared.plan.Item.{Item}
use Rattle.run_workers.specs.Working.{machine_of}

-- each guest's journal leads from its start to its last state
abbrev pub AreRecords : List Boot → List GuestState → List GuestRecord → Type 0
AreRecords [] [] [] = Unit {0}
AreRecords (b ∷ boots) (s ∷ states) (guest ∷ guests) = IsRecord b s guest × AreRecords boots states guests
AreRecords boots states guests = ⊥

-- What each guest took of what another sent to it is the first of what the wire between them accepted; and it took nothing else.
pub record MeetWires (states : List GuestState) (guests : List GuestRecord) : Type 0 where
  pub between : (i j : ℕ) (sender receiver : GuestState) (left : GuestRecord) → slice_get states i ≡ Some sender → slice_get states j ≡ Some receiver → slice_get guests j ≡ Some left → i ≢ j → MeetsWire sender receiver left.journal.entries
  pub others : (j : ℕ) (receiver : GuestState) (left : GuestRecord) → slice_get states j ≡ Some receiver → slice_get guests j ≡ Some left → All (IsFromOther receiver) (taken left.journal.entries receiver)

-- the guests at the end: each with its last state and its journal
abbrev pub lefts_of : List GuestState → List GuestRecord → List Left
lefts_of [] guests = []
lefts_of (s ∷ states) [] = []
lefts_of (s ∷ states) (guest ∷ guests) = record { state = s; journal = guest.journal.entries } ∷ lefts_of states guests

-- of each item came an outcome that is due, and the record's slices and failures are those among them
pub record AllDue (boots : List Boot) (items : List Item) (states : List GuestState) (out : RunRecord) : Type 0 where
  pub outcomes : List Outcome
  pub slices : out.slices ≡ slices_of outcomes
  pub failures : out.failures ≡ failures_of outcomes
  pub due : IsDue (machine_of boots) (planned 0 items) (lefts_of states out.guests) outcomes

-- the record is due for the plan, and its packets are those of the wires
pub record IsWhole (d : Described) (boots : List Boot) (out : RunRecord) : Type 0 where
  pub states : List GuestState
  pub guests : AreRecords boots states out.guests
  pub due : AllDue boots d.items states out
  pub packets : MeetWires states out.guests

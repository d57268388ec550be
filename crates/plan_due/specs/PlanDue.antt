-- A record is due for a plan: it has every planned step up to a named end, every ask and every failure.
use Rattle.std.specs.Prelude.{◌≡◌, ◌≢◌, ◌⊎◌, ℕ, zero, suc, ◌+◌, ◌<◌, ◌≤◌, ◌==◌, ◌&&◌, List, [], ◌∷◌, ◌++◌, length, Bool, true, false, if◌then◌else◌, count_by, flat_map, Option, Some, None, slice_get}
use Rattle.base_words.specs.declared.ids.GuestId.{GuestId}
use Rattle.base_words.specs.declared.ids.ProcId.{ProcId}
use Rattle.base_words.specs.declared.events.Event.{Event}
use Rattle.base_words.specs.declared.events.Event.TheVariants.{Direct, Refill, Emulate, Begin, Ack, Finish, Load, Unload, PacketIn, Discard, Skip, CellFails, End as Ending}
use Rattle.base_words.specs.declared.events.End.{End}
use Rattle.base_words.specs.declared.events.End.TheVariants.{Halted as ByHalt, Budget, CellFailed as ByCell}
use Rattle.event_journal.specs.Steps.{steps_in}
use Rattle.plan_due.specs.Failures.{failures_in}
use Rattle.isolation_law.specs.CellFailure.{end_by}
use Rattle.isolation_law.specs.GuestState.{GuestState, vcpu_of}
use Rattle.isolation_law.specs.Parts.{SkipEntry}
use Rattle.guest_core.specs.Asks.{wishes_by}
use Rattle.guest_core.specs.declared.records.Cut.{Cut}
use Rattle.guest_core.specs.declared.records.Cut.TheVariants.{Whole, VcpuHalted, GuestEnded, CellFailed}
use Rattle.guest_core.specs.declared.records.FailureRecord.{FailureRecord}
use Rattle.guest_core.specs.declared.records.SliceRecord.{SliceRecord}
use Rattle.plan_due.specs.Planned.{Work, Runs, Asks, Fails, Planned, is_run_of, is_fail_of, wishes_for}
use Rattle.plan_due.specs.Slices.{Machine}
use Rattle.plan_due.specs.declared.outcome.Outcome.{Outcome}
use Rattle.plan_due.specs.declared.outcome.Outcome.TheVariants.{Slice, Asked, Failure}

-- ---- entries of a journal

abbrev pub is_load_of : ℕ → ℕ → Event → Bool
is_load_of p v (Direct q u) = false
is_load_of p v (Refill q) = false
is_load_of p v (Emulate q u) = false
is_load_of p v (Begin page kind node by) = false
is_load_of p v (Ack q page) = false
is_load_of p v (Finish page) = false
is_load_of p v (Load q u) = (q.0 == p) && (u.0 == v)
is_load_of p v (Unload q) = false
is_load_of p v (PacketIn place) = false
is_load_of p v (Discard place) = false
is_load_of p v (Skip place) = false
is_load_of p v (CellFails cell) = false
is_load_of p v (Ending end) = false

abbrev pub loads_in : ℕ → ℕ → List Event → ℕ
loads_in p v journal = count_by (is_load_of p v) journal

-- a processor unloads what is loaded on it
abbrev pub HasUnload : ProcId → List Event → Type 0
HasUnload p [] = ⊥
HasUnload p (e ∷ journal) = (e ≡ Unload p) ⊎ HasUnload p journal

-- what an entry loads is unloaded by a later one
abbrev pub IsUnloaded : Event → List Event → Type 0
IsUnloaded (Direct q u) journal = Unit {0}
IsUnloaded (Refill q) journal = Unit {0}
IsUnloaded (Emulate q u) journal = Unit {0}
IsUnloaded (Begin page kind node by) journal = Unit {0}
IsUnloaded (Ack q page) journal = Unit {0}
IsUnloaded (Finish page) journal = Unit {0}
IsUnloaded (Load q u) journal = HasUnload q journal
IsUnloaded (Unload q) journal = Unit {0}
IsUnloaded (PacketIn place) journal = Unit {0}
IsUnloaded (Discard place) journal = Unit {0}
IsUnloaded (Skip place) journal = Unit {0}
IsUnloaded (CellFails cell) journal = Unit {0}
IsUnloaded (Ending end) journal = Unit {0}

abbrev pub AreUnloaded : List Event → Type 0
AreUnloaded [] = Unit {0}
AreUnloaded (e ∷ journal) = IsUnloaded e journal × AreUnloaded journal

-- ---- the guests at the end of the run

-- a guest's last state and its journal
pub record Left : Type 0 where
  pub state : GuestState
  pub journal : List Event

-- the entries and the skips of a guest, or none where there is no such guest
abbrev pub journal_of : List Left → ℕ → List Event
journal_of [] g = []
journal_of (guest ∷ guests) zero = guest.journal
journal_of (guest ∷ guests) (suc g) = journal_of guests g

abbrev pub skips_of : List Left → ℕ → List SkipEntry
skips_of [] g = []
skips_of (guest ∷ guests) zero = guest.state.skips
skips_of (guest ∷ guests) (suc g) = skips_of guests g

-- the guests, counted from a number, that ended by a cell
abbrev pub is_end_by : ℕ → Option End → Bool
is_end_by c None = false
is_end_by c (Some ByHalt) = false
is_end_by c (Some Budget) = false
is_end_by c (Some (ByCell d)) = d.0 == c

abbrev pub ended_by_cell : ℕ → ℕ → List Left → List GuestId
ended_by_cell c g [] = []
ended_by_cell c g (guest ∷ guests) = (if is_end_by c guest.state.end then record { 0 = g } ∷ [] else []) ++ ended_by_cell c (suc g) guests

-- ---- what came of the items

-- why a slice ended, by the guest's last state: it has its planned steps, or fewer and a named cause
abbrev pub CutBy : ℕ → Left → ℕ → Cut → Type 0
CutBy cell guest v Whole = Unit {0}
CutBy cell guest v VcpuHalted = (vcpu_of guest.state v).halted ≡ true
CutBy cell guest v (GuestEnded end) = (guest.state.end ≡ Some end) × (end ≢ Budget)
CutBy cell guest v (CellFailed c) = (c.0 ≡ cell) × (1 ≤ failures_in c.0 guest.journal)

abbrev pub HasSteps : ℕ → ℕ → Cut → Type 0
HasSteps planned steps Whole = steps ≡ planned
HasSteps planned steps VcpuHalted = steps < planned
HasSteps planned steps (GuestEnded end) = steps < planned
HasSteps planned steps (CellFailed c) = (steps < planned) × (steps ≡ 0)

-- each outcome is of its item: of a run its slice, with its cause; of a failure which guests ended by the cell
abbrev pub IsDone : Machine → List Left → Planned → Work → Outcome → Type 0
IsDone m guests item (Runs g v steps) (Slice slice) =
    (slice.item ≡ item.item) × HasSteps steps slice.steps slice.cause
    × ((guest : Left) × (slice_get guests g ≡ Some guest) × CutBy (m.cell_at item.processor) guest v slice.cause)
IsDone m guests item (Runs g v steps) Asked = ⊥
IsDone m guests item (Runs g v steps) (Failure failure) = ⊥
IsDone m guests item (Asks g wish) (Slice slice) = ⊥
IsDone m guests item (Asks g wish) Asked = Unit {0}
IsDone m guests item (Asks g wish) (Failure failure) = ⊥
IsDone m guests item (Fails c) (Slice slice) = ⊥
IsDone m guests item (Fails c) Asked = ⊥
IsDone m guests item (Fails c) (Failure failure) = (failure.item ≡ item.item) × (failure.cell.0 ≡ c) × (failure.ended ≡ ended_by_cell c 0 guests)

abbrev pub AreDone : Machine → List Left → List Planned → List Outcome → Type 0
AreDone m guests [] [] = Unit {0}
AreDone m guests [] (outcome ∷ outcomes) = ⊥
AreDone m guests (item ∷ plan) [] = ⊥
AreDone m guests (item ∷ plan) (outcome ∷ outcomes) = IsDone m guests item item.work outcome × AreDone m guests plan outcomes

-- ---- their order

-- after a slice that was cut short, a later slice on the same processor has no steps: of the same virtual processor where that had
-- halted, of the same guest where that had ended or the cell was dead for it
abbrev pub AfterSlice : ℕ → ℕ → Cut → ℕ → ℕ → ℕ → Type 0
AfterSlice g v Whole h u steps = Unit {0}
AfterSlice g v VcpuHalted h u steps = h ≡ g → u ≡ v → steps ≡ 0
AfterSlice g v (GuestEnded end) h u steps = h ≡ g → steps ≡ 0
AfterSlice g v (CellFailed c) h u steps = h ≡ g → steps ≡ 0

-- and the cell by which it was cut short doesn't fail there
abbrev pub AfterCut : Cut → ℕ → Type 0
AfterCut Whole c = Unit {0}
AfterCut VcpuHalted c = Unit {0}
AfterCut (GuestEnded end) c = end ≢ end_by c
AfterCut (CellFailed d) c = d.0 ≢ c

-- after the failure of the processor's own cell a slice there has no steps
abbrev pub After : ℕ → Work → Outcome → Work → Outcome → Type 0
After cell (Runs g v n) (Slice s) (Runs h u k) (Slice t) = AfterSlice g v s.cause h u t.steps
After cell (Runs g v n) (Slice s) (Fails c) later = AfterCut s.cause c
After cell (Fails c) failure (Runs h u k) (Slice t) = cell ≡ c → t.steps ≡ 0
After cell work outcome later_work later = Unit {0}

abbrev pub AllAfter : Machine → Planned → Outcome → List Planned → List Outcome → Type 0
AllAfter m item outcome (later ∷ plan) (next ∷ outcomes) =
    (later.processor ≡ item.processor → After (m.cell_at item.processor) item.work outcome later.work next) × AllAfter m item outcome plan outcomes
AllAfter m item outcome plan outcomes = Unit {0}

abbrev pub AreInOrder : Machine → List Planned → List Outcome → Type 0
AreInOrder m (item ∷ plan) (outcome ∷ outcomes) = AllAfter m item outcome plan outcomes × AreInOrder m plan outcomes
AreInOrder m plan outcomes = Unit {0}

-- ---- counted

abbrev pub steps_of : ℕ → ℕ → ℕ → Planned → Outcome → ℕ
steps_of p g v item (Slice slice) = if is_run_of p g v item then slice.steps else 0
steps_of p g v item Asked = 0
steps_of p g v item (Failure failure) = 0

abbrev pub sliced_steps : ℕ → ℕ → ℕ → List Planned → List Outcome → ℕ
sliced_steps p g v (item ∷ plan) (outcome ∷ outcomes) = steps_of p g v item outcome + sliced_steps p g v plan outcomes
sliced_steps p g v plan outcomes = 0

-- ---- what the record has of the outcomes

abbrev pub slice_of : Outcome → List SliceRecord
slice_of (Slice slice) = slice ∷ []
slice_of Asked = []
slice_of (Failure failure) = []

abbrev pub failure_of : Outcome → List FailureRecord
failure_of (Slice slice) = []
failure_of Asked = []
failure_of (Failure failure) = failure ∷ []

-- the slices and the failures among the outcomes, in order
abbrev pub slices_of : List Outcome → List SliceRecord
slices_of outcomes = flat_map slice_of outcomes

abbrev pub failures_of : List Outcome → List FailureRecord
failures_of outcomes = flat_map failure_of outcomes

-- ---- the whole

-- each outcome is of its item, with its cause; the journals have the slices' steps, a load for each slice at most, and what was loaded
-- was unloaded; each processor's moves that a journal has as the plan's, begun or not, are those of the plan, in its order; and each
-- cell failed once for each guest where the plan has its failure, and else never

pub record IsDue (m : Machine) (plan : List Planned) (guests : List Left) (outcomes : List Outcome) : Type 0 where
  pub done : AreDone m guests plan outcomes
  pub ordered : AreInOrder m plan outcomes
  pub steps : (p g v : ℕ) → steps_in p v (journal_of guests g) ≡ sliced_steps p g v plan outcomes
  pub loads : (p g v : ℕ) → loads_in p v (journal_of guests g) ≤ count_by (is_run_of p g v) plan
  pub unloaded : (g : ℕ) → AreUnloaded (journal_of guests g)
  pub asked : (p g : ℕ) → wishes_by p (skips_of guests g) (journal_of guests g) ≡ wishes_for p g plan
  pub failed : (g c : ℕ) → g < length guests → failures_in c (journal_of guests g) ≡ count_by (is_fail_of c) plan

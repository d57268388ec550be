-- What a worker is told while it carries out the items of its processor.
use Rattle.std.specs.Prelude.{◌≡◌, ℕ, ◌<◌, ◌==◌, if◌then◌else◌, List, [], ◌∷◌, ◌++◌, length, map, Bool, true, false}
use Rattle.base_words.specs.declared.ids.ProcId.{ProcId}
use Rattle.base_words.specs.declared.ids.VcpuId.{VcpuId}
use Rattle.base_words.specs.declared.events.Event.TheVariants.{Load, Unload}
use Rattle.shootdown.specs.declared.notes.Note.{Note}
use Rattle.shootdown.specs.declared.notes.Note.TheVariants.{Made}
use Rattle.shootdown.specs.declared.view.SidedNote.{SidedNote}
use Rattle.shootdown.specs.Notes.{sided}
use Rattle.guest_core.specs.Asks.{note_of}
use Rattle.guest_core.specs.declared.records.SliceRecord.{SliceRecord}
use Rattle.guest_core.specs.declared.records.FailureRecord.{FailureRecord}
use Rattle.guest_core.specs.declared.records.Cut.{Cut}
use Rattle.guest_core.specs.declared.records.Cut.TheVariants.{Whole, VcpuHalted, GuestEnded, CellFailed}
use Rattle.plan_due.specs.Stops as stop
use Rattle.plan_due.specs.Stops.{Stop, told_of_stop}
use Rattle.guest_lock.specs.Told.{AreSteps}
use Rattle.guest_core.specs.declared.answers.Fate.{Fate}
use Rattle.guest_lock.specs.Fates.{AreToldFates, ended_from}
use Rattle.plan_due.specs.Planned.{Work, Runs, Asks, Fails, Planned}
use Rattle.plan_due.specs.declared.outcome.Outcome.{Outcome}
use Rattle.plan_due.specs.declared.outcome.Outcome.TheVariants.{Slice, Asked, Failure}

-- ---- one slice

abbrev pub vcpu_at : ℕ → VcpuId
vcpu_at v = record { 0 = v }

-- the cause of a slice, by how its turns came to their end; a cell that is named is that of the processor
abbrev pub IsCause : ℕ → ℕ → ℕ → Stop → Cut → Type 0
IsCause cell planned steps by Whole = steps ≡ planned
IsCause cell planned steps by VcpuHalted = (steps < planned) × (by ≡ stop.VcpuHalted)
IsCause cell planned steps by (GuestEnded end) = (steps < planned) × (by ≡ stop.GuestEnded end)
IsCause cell planned steps by (CellFailed c) = (steps < planned) × (by ≡ stop.CellDead c) × (steps ≡ 0) × (c.0 ≡ cell)

-- where the virtual processor was loaded, the notes stand between those of its load and its unload
abbrev pub framed : Bool → ProcId → VcpuId → List Note → List Note
framed false p v notes = notes
framed true p v notes = Made (Load p v) ∷ (notes ++ Made (Unload p) ∷ [])

-- the notes of a slice: of its steps, and of what ended it
pub record IsSlice (cell : ℕ) (item : ℕ) (p : ProcId) (v : VcpuId) (planned : ℕ) (slice : SliceRecord) (told : List Note) : Type 0 where
  pub number : slice.item ≡ item
  pub loaded : Bool
  pub made : List Note
  pub by : Stop
  pub steps : AreSteps p v slice.steps made
  pub notes : told ≡ framed loaded p v (made ++ told_of_stop v by)
  pub cause : IsCause cell planned slice.steps by slice.cause

-- ---- one item

-- which cell a processor is of, and how many guests the run has
pub record Machine : Type 0 where
  pub cell_at : ℕ → ℕ
  pub guests : ℕ

abbrev pub IsToldRun : Machine → Planned → ℕ → ℕ → ℕ → SliceRecord → List SidedNote → Type 0
IsToldRun m item g v steps slice notes =
    (told : List Note) × IsSlice (m.cell_at item.processor) item.item (record { 0 = item.processor }) (vcpu_at v) steps slice told × (notes ≡ map (sided g) told)

-- the fate of each guest
pub record IsToldFailure (m : Machine) (item : ℕ) (cell : ℕ) (failure : FailureRecord) (notes : List SidedNote) : Type 0 where
  pub number : failure.item ≡ item
  pub cell_is : failure.cell.0 ≡ cell
  pub fates : List Fate
  pub all : length fates ≡ m.guests
  pub are : AreToldFates failure.cell 0 fates notes
  pub ended : failure.ended ≡ ended_from 0 fates

-- what is told of an item, each note with its guest, by what came of it
abbrev pub IsToldWork : Machine → Planned → Work → Outcome → List SidedNote → Type 0
IsToldWork m item (Runs g v steps) (Slice slice) notes = IsToldRun m item g v steps slice notes
IsToldWork m item (Runs g v steps) Asked notes = ⊥
IsToldWork m item (Runs g v steps) (Failure failure) notes = ⊥
IsToldWork m item (Asks g wish) (Slice slice) notes = ⊥
IsToldWork m item (Asks g wish) Asked notes = notes ≡ sided g (note_of wish) ∷ []
IsToldWork m item (Asks g wish) (Failure failure) notes = ⊥
IsToldWork m item (Fails c) (Slice slice) notes = ⊥
IsToldWork m item (Fails c) Asked notes = ⊥
IsToldWork m item (Fails c) (Failure failure) notes = IsToldFailure m item.item c failure notes

abbrev pub IsTold : Machine → Planned → Outcome → List SidedNote → Type 0
IsTold m item outcome notes = IsToldWork m item item.work outcome notes

-- ---- the items of a processor

abbrev pub own : ℕ → List Planned → List Planned
own p [] = []
own p (item ∷ plan) = if item.processor == p then item ∷ own p plan else own p plan

-- all notes of a processor: those of its items, one behind the other
abbrev pub AreTold : Machine → List Planned → List Outcome → List SidedNote → Type 0
AreTold m [] [] notes = notes ≡ []
AreTold m [] (outcome ∷ outcomes) notes = ⊥
AreTold m (item ∷ plan) [] notes = ⊥
AreTold m (item ∷ plan) (outcome ∷ outcomes) notes =
    (told : List SidedNote) × (rest : List SidedNote)
    × IsTold m item outcome told
    × (notes ≡ told ++ rest)
    × AreTold m plan outcomes rest

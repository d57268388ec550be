-- What a worker needs, and what it has done.
use Rattle.std.specs.Prelude.{◌≡◌, ℕ, ◌<◌, ◌==◌, ◌++◌, List, [], ◌∷◌, length, Bool, true, false, Option, Some, None, slice_get}
use Rattle.base_words.specs.declared.ids.NodeId.{NodeId}
use Rattle.base_words.specs.declared.ids.Ppn.{Ppn}
use Rattle.base_words.specs.declared.ids.VcpuId.{VcpuId}
use Rattle.base_words.specs.declared.moves.MoveKind.{MoveKind}
use Rattle.shootdown.specs.declared.notes.Note.{Note}
use Rattle.shootdown.specs.declared.view.SidedNote.{SidedNote}
use Rattle.shootdown.specs.Notes.{Token}
use Rattle.isolation_law.specs.Parts.{Wish}
use Rattle.isolation_law.specs.Start.{Boot}
use Rattle.isolation_law.specs.Surroundings.{cell_of_processor}
use Rattle.machine_desc.specs.declared.plan.Item.{Item}
use Rattle.machine_desc.specs.declared.plan.Item.TheVariants.{Run, Move, Fail}
use Rattle.guest_core.specs.GuestCalls.{processor_of}
use Rattle.guest_core.specs.declared.records.SliceRecord.{SliceRecord}
use Rattle.guest_lock.specs.declared.burst.Stop.{Stop as BurstStop}
use Rattle.guest_lock.specs.declared.burst.Stop.TheVariants as burst
use Rattle.guest_lock.specs.Fits.{MayAsk}
use Rattle.guest_lock.specs.Told.{with_told}
use Rattle.plan_due.specs.Planned.{Planned, planned_as}
use Rattle.plan_due.specs.Slices.{Machine, IsSlice, IsTold}
use Rattle.plan_due.specs.Stops.{Stop}
use Rattle.plan_due.specs.Stops as stop
use Rattle.plan_due.specs.declared.outcome.Outcome.{Outcome}
use Rattle.base_words.specs.Limits.{most_cells}

-- the machine of these guests: the cell of each processor, as the first of them is told, and how many they are
abbrev pub cell_in : List Boot → ℕ → ℕ
cell_in [] p = 0
cell_in (b ∷ starts) p = cell_of_processor b.around p

abbrev pub machine_of : List Boot → Machine
machine_of starts = record { cell_at = cell_in starts; guests = length starts }

-- each guest is told the same of the processors' cells
abbrev pub AreOfOneMachine : List Boot → Type 0
AreOfOneMachine starts = (g : ℕ) (b : Boot) → slice_get starts g ≡ Some b → (p : ℕ) → cell_of_processor b.around p ≡ cell_in starts p

-- the run has the guest of a run item, with its virtual processor
pub record HasPlace (starts : List Boot) (g v : ℕ) : Type 0 where
  pub start : Boot
  pub named : slice_get starts g ≡ Some start
  pub vcpu : v < start.vcpus

-- what a move item asks for
abbrev pub wish_for : Ppn → MoveKind → NodeId → Wish
wish_for page kind node = record { page = page.0; kind = kind; node = node.0 }

-- the run has the guest of a move item, which may be asked for it
pub record HasMove (starts : List Boot) (g : ℕ) (wish : Wish) : Type 0 where
  pub start : Boot
  pub named : slice_get starts g ≡ Some start
  pub may : MayAsk start wish

-- an item fits the run; a cell that fails is one of those that a machine may have
abbrev pub ItemFits : List Boot → Item → Type 0
ItemFits starts (Run processor guest vcpu steps) = HasPlace starts guest.0 vcpu.0
ItemFits starts (Move processor guest page kind node) = HasMove starts guest.0 (wish_for page kind node)
ItemFits starts (Fail processor cell) = cell.0 < most_cells

-- board and number stay
pub record IsSameToken (old new : Token) : Type 0 where
  pub board : new.board ≡ old.board
  pub number : new.number ≡ old.number

-- how a burst came to its end, as far as it is told
abbrev pub as_told : BurstStop → Stop
as_told burst.Paused = stop.Paused
as_told (burst.Waits page) = stop.Paused
as_told burst.VcpuHalted = stop.VcpuHalted
as_told (burst.GuestEnded end) = stop.GuestEnded end
as_told burst.Memory = stop.Paused

-- a token that is told of a slice of a guest
pub record Serves (cell item : ℕ) (v : VcpuId) (planned : ℕ) (old : Token) (g : ℕ) (slice : SliceRecord) (new : Token) : Type 0 where
  pub told : List Note
  pub is : IsSlice cell item (processor_of old) v planned slice told
  pub token : new ≡ with_told old g told

-- whether an item is one of a processor
abbrev pub is_own : ℕ → Item → Bool
is_own p (Run processor guest vcpu steps) = processor.0 == p
is_own p (Move processor guest page kind node) = processor.0 == p
is_own p (Fail processor cell) = processor.0 == p

-- an item of the token's processor is carried out, and no other one
pub record Carries (m : Machine) (item : Planned) (old : Token) (outcome : Outcome) (new : Token) : Type 0 where
  pub told : List SidedNote
  pub is : IsTold m item outcome told
  pub token : new ≡ record old { notes = old.notes ++ told }

abbrev pub CarriesOne : Machine → ℕ → Item → Token → Option Outcome → Token → Type 0
CarriesOne m number item old None new = (is_own old.number item ≡ false) × (new ≡ old)
CarriesOne m number item old (Some outcome) new = (is_own old.number item ≡ true) × Carries m (planned_as number item) old outcome new

-- an item is of one of so many processors
abbrev pub IsOn : ℕ → Item → Type 0
IsOn processors (Run processor guest vcpu steps) = processor.0 < processors
IsOn processors (Move processor guest page kind node) = processor.0 < processors
IsOn processors (Fail processor cell) = processor.0 < processors

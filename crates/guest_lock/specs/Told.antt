-- What a token is told by each call.
use Rattle.std.specs.Prelude.{◌≡◌, ◌⊎◌, ℕ, zero, suc, List, [], ◌∷◌, ◌++◌, map, Option, unwrap_or, Result, Ok, Err, Some, slice_get}
use Rattle.std.specs.declared.alloc.AllocError.{AllocError}
use Rattle.base_words.specs.declared.ids.ProcId.{ProcId}
use Rattle.base_words.specs.declared.ids.VcpuId.{VcpuId}
use Rattle.base_words.specs.declared.events.Event.TheVariants.{Direct, Emulate}
use Rattle.shootdown.specs.declared.notes.Note.{Note}
use Rattle.shootdown.specs.declared.notes.Note.TheVariants.{Made, Halted, Ended}
use Rattle.shootdown.specs.Notes.{Token, sided, with_side}
use Rattle.guest_core.specs.GuestView.{Monitored}
use Rattle.guest_core.specs.Noting.{shows_loaded}
use Rattle.guest_core.specs.GuestCalls.{processor_of, told_of_load}
use Rattle.guest_core.specs.declared.answers.Asked.{Asked}
use Rattle.guest_core.specs.declared.answers.Asked.TheVariants.{Busy}
use Rattle.guest_core.specs.declared.answers.Loaded.{Loaded}
use Rattle.guest_core.specs.declared.answers.Loaded.TheVariants.{On, Dead}
use Rattle.guest_lock.specs.declared.burst.Burst.{Burst}
use Rattle.guest_lock.specs.declared.burst.Stop.{Stop}
use Rattle.guest_lock.specs.declared.burst.Stop.TheVariants as stop
use Rattle.isolation_law.specs.Start.{Boot}
use Rattle.isolation_law.specs.Surroundings.{cell_of_processor}

-- a token whose notes grew by these, with this guest
abbrev pub with_told : Token → ℕ → List Note → Token
with_told token g told = record token { notes = token.notes ++ map (sided g) told }

-- which virtual processor of a guest is loaded on the token's processor, as its notes show
abbrev pub shown : ℕ → Token → Option ℕ
shown g token = shows_loaded (with_side g token.notes)

abbrev pub vcpu_shown : ℕ → Token → VcpuId
vcpu_shown g token = record { 0 = unwrap_or (shown g token) 0 }

-- a token noted of a guest what the guest's seat noted of the token's processor
abbrev pub AreInStep : Token → Monitored → Type 0
AreInStep token g = with_side g.number token.notes ≡ with_side token.number g.notes

-- ---- loads

abbrev pub told_of_loading : ProcId → VcpuId → Result Loaded AllocError → List Note
told_of_loading p v (Ok loaded) = told_of_load p v loaded
told_of_loading p v (Err e) = []

-- who waited isn't told to wait
abbrev pub HasWaited : Result Loaded AllocError → Type 0
HasWaited (Ok (On q)) = ⊥
HasWaited result = Unit {0}

-- a cell that has failed, where it is named, is that of the processor
abbrev pub NamesCell : List Boot → ℕ → ℕ → Result Loaded AllocError → Type 0
NamesCell starts g p (Ok (Dead cell)) = (b : Boot) → slice_get starts g ≡ Some b → cell.0 ≡ cell_of_processor b.around p
NamesCell starts g p result = Unit {0}

-- ---- asks

-- who asked and waited isn't told that the page has another move
abbrev pub HasAsked : Result Asked AllocError → Type 0
HasAsked (Ok (Busy set)) = ⊥
HasAsked result = Unit {0}

-- ---- bursts

-- the note of an own step
abbrev pub IsStep : ProcId → VcpuId → Note → Type 0
IsStep p v note = (note ≡ Made (Direct p v)) ⊎ (note ≡ Made (Emulate p v))

-- the notes of so many own steps
abbrev pub AreSteps : ProcId → VcpuId → ℕ → List Note → Type 0
AreSteps p v zero [] = Unit {0}
AreSteps p v (suc n) (note ∷ notes) = IsStep p v note × AreSteps p v n notes
AreSteps p v n notes = ⊥

-- what is told last
abbrev pub told_of_stop : VcpuId → Stop → List Note
told_of_stop v stop.Paused = []
told_of_stop v (stop.Waits page) = []
told_of_stop v stop.VcpuHalted = Halted v ∷ []
told_of_stop v (stop.GuestEnded end) = Ended end ∷ []
told_of_stop v stop.Memory = []

-- a burst of what is loaded on the token's processor: the steps that were made, and why no more
pub record Bursts (old : Token) (g : ℕ) (burst : Burst) (new : Token) : Type 0 where
  pub made : List Note
  pub steps : AreSteps (processor_of old) (vcpu_shown g old) burst.steps made
  pub token : new ≡ with_told old g (made ++ told_of_stop (vcpu_shown g old) burst.stop)

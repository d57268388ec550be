-- A cell that fails for a guest: what becomes of it, and what is told.
use Rattle.std.specs.Prelude.{◌≡◌, ◌≢◌, ◌==◌, if◌then◌else◌, true, false, List, [], ◌∷◌, ◌++◌, Option, Some, None}
use Rattle.base_words.specs.declared.ids.CellId.{CellId}
use Rattle.base_words.specs.declared.events.End.{End}
use Rattle.base_words.specs.declared.events.End.TheVariants.{Halted, Budget, CellFailed}
use Rattle.base_words.specs.declared.events.Event.TheVariants.{CellFails, End as Ending}
use Rattle.shootdown.specs.declared.notes.Note.{Note}
use Rattle.shootdown.specs.declared.notes.Note.TheVariants.{Made, Ended, Dead}
use Rattle.isolation_law.specs.CellUse.{uses}
use Rattle.isolation_law.specs.GuestState.{is_dead}
use Rattle.guest_course.specs.EndCalls.{letting_go}
use Rattle.guest_core.specs.GuestView.{Monitored}
use Rattle.guest_core.specs.Making.{MakesAlone, Rests}
use Rattle.guest_core.specs.declared.answers.Fate.{Fate}
use Rattle.guest_core.specs.declared.answers.Fate.TheVariants as fate

-- the guest uses the cell, and ends by it, once its pages are let go that are being taken shared
pub record EndsByCell (old : Monitored) (c : CellId) (new : Monitored) : Type 0 where
  pub not_ended : old.state.end ≡ None
  pub lives : is_dead old.state c.0 ≡ false
  pub used : uses old.state c.0 ≡ true
  pub makes : MakesAlone old (CellFails c ∷ (letting_go 0 old.state.pages ++ Ending (CellFailed c) ∷ [])) new
  pub ended : new.state.end ≡ Some (CellFailed c)

-- it doesn't, and goes on
pub record OutlivesCell (old : Monitored) (c : CellId) (new : Monitored) : Type 0 where
  pub not_ended : old.state.end ≡ None
  pub lives : is_dead old.state c.0 ≡ false
  pub unused : uses old.state c.0 ≡ false
  pub makes : MakesAlone old (CellFails c ∷ []) new
  pub goes_on : new.state.end ≡ None

-- it had ended otherwise
pub record EndedBefore (old : Monitored) (c : CellId) (new : Monitored) : Type 0 where
  pub end : End
  pub ended : old.state.end ≡ Some end
  pub other : end ≢ CellFailed c
  pub lives : is_dead old.state c.0 ≡ false
  pub makes : MakesAlone old (CellFails c ∷ []) new
  pub stays : new.state.end ≡ Some end

-- the cell had failed for it already
pub record FailedBefore (old : Monitored) (c : CellId) (new : Monitored) : Type 0 where
  pub dead : is_dead old.state c.0 ≡ true
  pub rests : Rests old new

abbrev pub FailsCell : Monitored → CellId → Monitored → Fate → Type 0
FailsCell old c new fate.Ends = EndsByCell old c new
FailsCell old c new fate.Stays = OutlivesCell old c new
FailsCell old c new fate.WasEnded = EndedBefore old c new
FailsCell old c new fate.WasDead = FailedBefore old c new

-- what is told of a failure: the entry, and that the guest ended by it, outlives it, or had ended; where the cell had failed already, that
-- alone, or that the guest has ended by it
abbrev pub told_if_dead : CellId → Option End → List Note
told_if_dead c None = Dead c ∷ []
told_if_dead c (Some Halted) = Dead c ∷ []
told_if_dead c (Some Budget) = Dead c ∷ []
told_if_dead c (Some (CellFailed d)) = if d.0 == c.0 then Ended (CellFailed c) ∷ [] else Dead c ∷ []

abbrev pub told_if_ended : CellId → Option End → List Note
told_if_ended c None = []
told_if_ended c (Some end) = Made (CellFails c) ∷ (Ended end ∷ [])

abbrev pub told_of_failure : CellId → Option End → Fate → List Note
told_of_failure c end fate.Ends = Made (CellFails c) ∷ (Ended (CellFailed c) ∷ [])
told_of_failure c end fate.Stays = Made (CellFails c) ∷ (Dead c ∷ [])
told_of_failure c end fate.WasEnded = told_if_ended c end
told_of_failure c end fate.WasDead = told_if_dead c end

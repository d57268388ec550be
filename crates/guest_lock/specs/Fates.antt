-- What becomes of the guests of a run where a cell fails, one after another, and what a token is told of it.
use Rattle.std.specs.Prelude.{◌≡◌, ◌≢◌, ◌⊎◌, ◌<◌, ◌≤◌, ℕ, suc, Bool, true, false, nat_lt, List, [], ◌∷◌, ◌++◌, length, map, Result, Ok, Err}
use Rattle.std.specs.declared.alloc.AllocError.{AllocError}
use Rattle.base_words.specs.declared.events.End.{End}
use Rattle.base_words.specs.declared.events.End.TheVariants.{CellFailed}
use Rattle.base_words.specs.declared.events.Event.TheVariants.{CellFails}
use Rattle.base_words.specs.declared.ids.CellId.{CellId}
use Rattle.base_words.specs.declared.ids.GuestId.{GuestId}
use Rattle.shootdown.specs.declared.notes.Note.{Note}
use Rattle.shootdown.specs.declared.notes.Note.TheVariants.{Made, Ended, Dead}
use Rattle.shootdown.specs.declared.view.SidedNote.{SidedNote}
use Rattle.shootdown.specs.Notes.{Token, sided}
use Rattle.guest_core.specs.declared.answers.Fate.{Fate}
use Rattle.guest_core.specs.declared.answers.Fate.TheVariants.{Ends, Stays, WasEnded, WasDead}
use Rattle.guest_lock.specs.Told.{with_told}

-- the failure, and what became of the guest: it ends by the cell, it outlives it, or it had ended otherwise. Where the cell was dead
-- already, there is no entry.
abbrev pub IsToldFate : CellId → Fate → List Note → Type 0
IsToldFate c Ends told = told ≡ Made (CellFails c) ∷ (Ended (CellFailed c) ∷ [])
IsToldFate c Stays told = told ≡ Made (CellFails c) ∷ (Dead c ∷ [])
IsToldFate c WasEnded told = (end : End) × (end ≢ CellFailed c) × (told ≡ Made (CellFails c) ∷ (Ended end ∷ []))
IsToldFate c WasDead told = (told ≡ Dead c ∷ []) ⊎ (told ≡ Ended (CellFailed c) ∷ [])

-- under one guest's lock; where memory is wanting nothing is told
abbrev pub IsToldFailing : CellId → Result Fate AllocError → List Note → Type 0
IsToldFailing c (Ok fate) told = IsToldFate c fate told
IsToldFailing c (Err e) told = told ≡ []

-- under the locks of these guests, counted from a number: one guest after another
abbrev pub AreToldFates : CellId → ℕ → List Fate → List SidedNote → Type 0
AreToldFates c g [] notes = notes ≡ []
AreToldFates c g (fate ∷ fates) notes =
    (told : List Note) × (rest : List SidedNote) × IsToldFate c fate told × (notes ≡ map (sided g) told ++ rest) × AreToldFates c (suc g) fates rest

-- which of them it ended
abbrev pub ended_by : ℕ → Fate → List GuestId
ended_by g Ends = record { 0 = g } ∷ []
ended_by g Stays = []
ended_by g WasEnded = []
ended_by g WasDead = []

abbrev pub ended_from : ℕ → List Fate → List GuestId
ended_from g [] = []
ended_from g (fate ∷ fates) = ended_by g fate ++ ended_from (suc g) fates

-- a failure under the locks of the first guests: what the token was told, and whom it ended
pub record FailsFirst (c : CellId) (count : ℕ) (old new : Token) (ended : List GuestId) : Type 0 where
  pub fates : List Fate
  pub all : length fates ≡ count
  pub told : List SidedNote
  pub are : AreToldFates c 0 fates told
  pub token : new ≡ record old { notes = old.notes ++ told }
  pub ended_are : ended ≡ ended_from 0 fates

-- the fate of one guest, and what the token and the list of those that ended learned of it
pub record Fails (c : CellId) (g : ℕ) (old : Token) (ended : List GuestId) (new : Token) (ended_after : List GuestId) : Type 0 where
  pub fate : Fate
  pub told : List Note
  pub is : IsToldFate c fate told
  pub token : new ≡ with_told old g told
  pub ended_are : ended_after ≡ ended ++ ended_by g fate

abbrev pub FailsOne : Bool → CellId → ℕ → Token → List GuestId → Token → List GuestId → Type 0
FailsOne true c g old ended new ended_after = Fails c g old ended new ended_after
FailsOne false c g old ended new ended_after = (new ≡ old) × (ended_after ≡ ended)

-- a failure under the lock of the guest of this number, where the run has one; none has another number
abbrev pub FailsNext : CellId → ℕ → ℕ → Token → List GuestId → Token → List GuestId → Type 0
FailsNext c count g old ended new ended_after = FailsOne (nat_lt g count) c g old ended new ended_after

-- memory was wanting at the guest of this number: it has had the failure, or it hasn't
abbrev pub WantsAt : CellId → ℕ → ℕ → Token → Token → Type 0
WantsAt c count g old new = (g < count) × ((new ≡ old) ⊎ ((fate : Fate) × (told : List Note) × IsToldFate c fate told × (new ≡ with_told old g told)))

-- memory was wanting: some guests, the first ones, have had the failure, and the others haven't
abbrev pub FailsSome : CellId → ℕ → Token → Token → Type 0
FailsSome c count old new = (some : ℕ) × (ended : List GuestId) × (some ≤ count) × FailsFirst c some old new ended

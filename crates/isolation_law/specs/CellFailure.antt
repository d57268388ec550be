-- A cell's failure ends a guest exactly where it finds the cell in use.
use Rattle.std.specs.Prelude.{◌≡◌, ◌⊎◌, ℕ, ◌==◌, Bool, true, false, List, ◌∷◌, ◌++◌, Some, None}
use Rattle.base_words.specs.declared.events.End.{End}
use Rattle.base_words.specs.declared.events.End.TheVariants.{CellFailed}
use Rattle.base_words.specs.declared.events.Event.{Event}
use Rattle.base_words.specs.declared.events.Event.TheVariants.{Direct, Refill, Emulate, Begin, Ack, Finish, Load, Unload, PacketIn, Discard, Skip, CellFails, End as Ending}
use Rattle.isolation_law.specs.GuestState.{GuestState}
use Rattle.isolation_law.specs.CellUse.{uses}
use Rattle.isolation_law.specs.Phases.{GoesOn, owed}
use Rattle.isolation_law.specs.Run.{Run}

-- the end by a cell, and its failure
abbrev pub end_by : ℕ → End
end_by c = CellFailed (record { 0 = c })

abbrev pub failure_of : ℕ → Event
failure_of c = CellFails (record { 0 = c })

-- this end has come, or has to
abbrev pub EndsAs : GuestState → End → Type 0
EndsAs s end = (s.end ≡ Some end) ⊎ ((s.end ≡ None) × (owed s ≡ Some end))

-- in a journal from a state stands the failure of a cell that found the guest going on and using it
pub record FoundInUse (s : GuestState) (journal : List Event) (c : ℕ) : Type 0 where
  pub before : List Event
  pub found : GuestState
  pub until : Run s before found
  pub going_on : GoesOn found
  pub used : uses found c ≡ true
  pub rest : List Event
  pub stands : journal ≡ before ++ failure_of c ∷ rest

-- an entry is the failure of a cell
abbrev pub is_failure : ℕ → Event → Bool
is_failure c (Load p v) = false
is_failure c (Unload p) = false
is_failure c (Direct p v) = false
is_failure c (Refill p) = false
is_failure c (Emulate p v) = false
is_failure c (Begin q kind node by) = false
is_failure c (Ack p q) = false
is_failure c (Finish q) = false
is_failure c (PacketIn k) = false
is_failure c (Discard k) = false
is_failure c (Skip k) = false
is_failure c (CellFails d) = d.0 == c
is_failure c (Ending end) = false

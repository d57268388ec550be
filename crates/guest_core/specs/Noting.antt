-- What a guest's seat has noted, against the guest's journal and its state.
use Rattle.std.specs.Prelude.{◌≡◌, ◌≢◌, ℕ, ◌==◌, ◌<◌, List, [], ◌∷◌, Bool, true, false, All, flat_map, filter, length, Option, Some, None}
use Rattle.base_words.specs.declared.events.Event.{Event}
use Rattle.base_words.specs.declared.events.Event.TheVariants.{Direct, Refill, Emulate, Begin, Ack, Finish, Load, Unload, PacketIn, Discard, Skip, CellFails, End as Ending}
use Rattle.base_words.specs.declared.events.End.{End}
use Rattle.base_words.specs.declared.events.End.TheVariants.{Halted as ByHalt, Budget, CellFailed}
use Rattle.shootdown.specs.declared.notes.Note.{Note}
use Rattle.shootdown.specs.declared.notes.Note.TheVariants.{Made, Asked, Halted, Ended, Dead}
use Rattle.shootdown.specs.declared.view.SidedNote.{SidedNote}
use Rattle.shootdown.specs.Notes.{with_side}
use Rattle.isolation_law.specs.Surroundings.{Surroundings, cell_of_processor}
use Rattle.isolation_law.specs.GuestState.{GuestState, processor, vcpu_of, is_dead}
use Rattle.isolation_law.specs.CellFailure.{end_by, is_failure, EndsAs}
use Rattle.guest_core.specs.Asks.{asks}

-- ---- entries

-- the entries of which notes are made: what processors do with their virtual processors, and failures
abbrev pub is_noted : Event → Bool
is_noted (Direct p v) = true
is_noted (Refill p) = false
is_noted (Emulate p v) = true
is_noted (Begin page kind node by) = false
is_noted (Ack p page) = false
is_noted (Finish page) = false
is_noted (Load p v) = true
is_noted (Unload p) = true
is_noted (PacketIn place) = false
is_noted (Discard place) = false
is_noted (Skip place) = false
is_noted (CellFails cell) = true
is_noted (Ending end) = false

-- an entry that names its processor is noted by that one
abbrev pub IsOwnEntry : ℕ → Event → Type 0
IsOwnEntry side (Direct p v) = side ≡ p.0
IsOwnEntry side (Refill p) = Unit {0}
IsOwnEntry side (Emulate p v) = side ≡ p.0
IsOwnEntry side (Begin page kind node by) = Unit {0}
IsOwnEntry side (Ack p page) = Unit {0}
IsOwnEntry side (Finish page) = Unit {0}
IsOwnEntry side (Load p v) = side ≡ p.0
IsOwnEntry side (Unload p) = side ≡ p.0
IsOwnEntry side (PacketIn place) = Unit {0}
IsOwnEntry side (Discard place) = Unit {0}
IsOwnEntry side (Skip place) = Unit {0}
IsOwnEntry side (CellFails cell) = Unit {0}
IsOwnEntry side (Ending end) = Unit {0}

abbrev pub IsOwnNote : ℕ → Note → Type 0
IsOwnNote side (Made e) = IsOwnEntry side e
IsOwnNote side (Asked page kind node) = Unit {0}
IsOwnNote side (Halted v) = Unit {0}
IsOwnNote side (Ended end) = Unit {0}
IsOwnNote side (Dead cell) = Unit {0}

abbrev pub IsOwn : SidedNote → Type 0
IsOwn n = IsOwnNote n.side n.note

-- the entries of which notes tell, in order
abbrev pub entry_of : Note → List Event
entry_of (Made e) = e ∷ []
entry_of (Asked page kind node) = []
entry_of (Halted v) = []
entry_of (Ended end) = []
entry_of (Dead cell) = []

abbrev pub made_in : List SidedNote → List Event
made_in notes = flat_map (λ (n : SidedNote). entry_of n.note) notes

abbrev pub noted : List Event → List Event
noted journal = filter is_noted journal

-- ---- what was asked for

abbrev pub is_ask : Note → Bool
is_ask (Made e) = false
is_ask (Asked page kind node) = true
is_ask (Halted v) = false
is_ask (Ended end) = false
is_ask (Dead cell) = false

abbrev pub asked_in : List SidedNote → List SidedNote
asked_in notes = filter (λ (n : SidedNote). is_ask n.note) notes

-- ---- answers

-- a cell is dead for a guest that doesn't end by it
pub record Outlives (s : GuestState) (c : ℕ) : Type 0 where
  pub dead : is_dead s c ≡ true
  pub stays : EndsAs s (end_by c) → ⊥

-- a cell that failed is dead
abbrev pub EntryHolds : GuestState → Event → Type 0
EntryHolds s (Direct p v) = Unit {0}
EntryHolds s (Refill p) = Unit {0}
EntryHolds s (Emulate p v) = Unit {0}
EntryHolds s (Begin page kind node by) = Unit {0}
EntryHolds s (Ack p page) = Unit {0}
EntryHolds s (Finish page) = Unit {0}
EntryHolds s (Load p v) = Unit {0}
EntryHolds s (Unload p) = Unit {0}
EntryHolds s (PacketIn place) = Unit {0}
EntryHolds s (Discard place) = Unit {0}
EntryHolds s (Skip place) = Unit {0}
EntryHolds s (CellFails c) = is_dead s c.0 ≡ true
EntryHolds s (Ending end) = Unit {0}

-- what a call did or answered holds of the state
abbrev pub HoldsOf : GuestState → Note → Type 0
HoldsOf s (Made e) = EntryHolds s e
HoldsOf s (Asked page kind node) = Unit {0}
HoldsOf s (Halted v) = (vcpu_of s v.0).halted ≡ true
HoldsOf s (Ended end) = (s.end ≡ Some end) × (end ≢ Budget)
HoldsOf s (Dead cell) = Outlives s cell.0

-- ---- what may come later

-- a step of a virtual processor, and the failure of a cell
abbrev pub is_entry_of : ℕ → Event → Bool
is_entry_of v (Direct p u) = u.0 == v
is_entry_of v (Refill p) = false
is_entry_of v (Emulate p u) = u.0 == v
is_entry_of v (Begin page kind node by) = false
is_entry_of v (Ack p page) = false
is_entry_of v (Finish page) = false
is_entry_of v (Load p u) = false
is_entry_of v (Unload p) = false
is_entry_of v (PacketIn place) = false
is_entry_of v (Discard place) = false
is_entry_of v (Skip place) = false
is_entry_of v (CellFails cell) = false
is_entry_of v (Ending end) = false

abbrev pub is_step_of : ℕ → Note → Bool
is_step_of v (Made e) = is_entry_of v e
is_step_of v (Asked page kind node) = false
is_step_of v (Halted u) = false
is_step_of v (Ended end) = false
is_step_of v (Dead cell) = false

abbrev pub is_failure_of : ℕ → Note → Bool
is_failure_of c (Made e) = is_failure c e
is_failure_of c (Asked page kind node) = false
is_failure_of c (Halted v) = false
is_failure_of c (Ended end) = false
is_failure_of c (Dead cell) = false

-- no processor of a cell makes a step, and the cell doesn't fail
pub record IsPastFailure (w : Surroundings) (c : ℕ) (n : SidedNote) : Type 0 where
  pub no_failure : is_failure_of c n.note ≡ false
  pub no_steps : cell_of_processor w n.side ≡ c → (v : ℕ) → is_step_of v n.note ≡ false

-- after the end no step comes, and after an end by a cell that one doesn't fail
abbrev pub IsPastEnd : End → Note → Type 0
IsPastEnd ByHalt n = (v : ℕ) → is_step_of v n ≡ false
IsPastEnd Budget n = (v : ℕ) → is_step_of v n ≡ false
IsPastEnd (CellFailed c) n = ((v : ℕ) → is_step_of v n ≡ false) × (is_failure_of c.0 n ≡ false)

abbrev pub MayFollowEntry : Surroundings → Event → SidedNote → Type 0
MayFollowEntry w (Direct p v) n = Unit {0}
MayFollowEntry w (Refill p) n = Unit {0}
MayFollowEntry w (Emulate p v) n = Unit {0}
MayFollowEntry w (Begin page kind node by) n = Unit {0}
MayFollowEntry w (Ack p page) n = Unit {0}
MayFollowEntry w (Finish page) n = Unit {0}
MayFollowEntry w (Load p v) n = Unit {0}
MayFollowEntry w (Unload p) n = Unit {0}
MayFollowEntry w (PacketIn place) n = Unit {0}
MayFollowEntry w (Discard place) n = Unit {0}
MayFollowEntry w (Skip place) n = Unit {0}
MayFollowEntry w (CellFails c) n = IsPastFailure w c.0 n
MayFollowEntry w (Ending end) n = Unit {0}

-- after a virtual processor was found halted it makes no step; after the guest was found to have ended none does; and once a cell has
-- failed, or was found dead, no processor of it makes a step, and it doesn't fail again
abbrev pub MayFollow : Surroundings → Note → SidedNote → Type 0
MayFollow w (Made e) n = MayFollowEntry w e n
MayFollow w (Asked page kind node) n = Unit {0}
MayFollow w (Halted v) n = is_step_of v.0 n.note ≡ false
MayFollow w (Ended end) n = IsPastEnd end n.note
MayFollow w (Dead c) n = IsPastFailure w c.0 n

abbrev pub AreInOrder : Surroundings → List SidedNote → Type 0
AreInOrder w [] = Unit {0}
AreInOrder w (n ∷ ns) = All (MayFollow w n.note) ns × AreInOrder w ns

-- ---- loads

-- what notes show to be loaded on a processor, by the last load or unload among them
abbrev pub loaded_by_entry : Option ℕ → Event → Option ℕ
loaded_by_entry l (Direct p v) = l
loaded_by_entry l (Refill p) = l
loaded_by_entry l (Emulate p v) = l
loaded_by_entry l (Begin page kind node by) = l
loaded_by_entry l (Ack p page) = l
loaded_by_entry l (Finish page) = l
loaded_by_entry l (Load p v) = Some v.0
loaded_by_entry l (Unload p) = None
loaded_by_entry l (PacketIn place) = l
loaded_by_entry l (Discard place) = l
loaded_by_entry l (Skip place) = l
loaded_by_entry l (CellFails cell) = l
loaded_by_entry l (Ending end) = l

abbrev pub loaded_by_note : Option ℕ → Note → Option ℕ
loaded_by_note l (Made e) = loaded_by_entry l e
loaded_by_note l (Asked page kind node) = l
loaded_by_note l (Halted v) = l
loaded_by_note l (Ended end) = l
loaded_by_note l (Dead cell) = l

abbrev pub loaded_by : Option ℕ → List Note → Option ℕ
loaded_by l [] = l
loaded_by l (n ∷ ns) = loaded_by (loaded_by_note l n) ns

abbrev pub shows_loaded : List Note → Option ℕ
shows_loaded notes = loaded_by None notes

-- ---- all notes

-- each note is of a processor that is there, and an entry's of the one that made it; the notes of entries are the journal's, in order;
-- those of asks are the begins and skips by the plan, in order; each answer that was noted holds, and nothing came after it that it
-- excludes; and the notes of each processor show what is loaded there
pub record IsNoted (s : GuestState) (journal : List Event) (notes : List SidedNote) : Type 0 where
  pub sides : All (λ (n : SidedNote). n.side < length s.processors) notes
  pub own : All IsOwn notes
  pub made : made_in notes ≡ noted journal
  pub asked : asked_in notes ≡ asks s.skips journal
  pub holds : All (λ (n : SidedNote). HoldsOf s n.note) notes
  pub ordered : AreInOrder s.around notes
  pub loaded : (p : ℕ) → p < length s.processors → shows_loaded (with_side p notes) ≡ (processor s p).loaded

-- What the plan asked for: the begins and skips of a journal that name a processor as the plan's, as that processor's notes.
use Rattle.std.specs.Prelude.{ℕ, List, [], ◌∷◌, flat_map, Option, Some, None, slice_get}
use Rattle.base_words.specs.declared.events.Event.{Event}
use Rattle.base_words.specs.declared.events.Event.TheVariants.{Direct, Refill, Emulate, Begin, Ack, Finish, Load, Unload, PacketIn, Discard, Skip, CellFails, End as Ending}
use Rattle.base_words.specs.declared.moves.By.{By}
use Rattle.base_words.specs.declared.moves.By.TheVariants.{Plan, Due, Step, Packet}
use Rattle.shootdown.specs.declared.notes.Note.{Note}
use Rattle.shootdown.specs.declared.notes.Note.TheVariants.{Made, Asked, Halted, Ended, Dead}
use Rattle.shootdown.specs.declared.view.SidedNote.{SidedNote}
use Rattle.shootdown.specs.Notes.{sided, with_side}
use Rattle.isolation_law.specs.Parts.{Wish, SkipEntry}

abbrev pub note_of : Wish → Note
note_of wish = Asked (record { 0 = wish.page }) wish.kind (record { 0 = wish.node })

-- the note of a processor that asked for a move by the plan
abbrev pub asked_by : Wish → By → List SidedNote
asked_by wish (Plan p) = sided p.0 (note_of wish) ∷ []
asked_by wish (Due p) = []
asked_by wish (Step p) = []
asked_by wish Packet = []

abbrev pub asked_at : Option SkipEntry → List SidedNote
asked_at None = []
asked_at (Some entry) = asked_by entry.wish entry.by

-- the note of an entry, with the list of skips of which it tells the place
abbrev pub asked_by_entry : List SkipEntry → Event → List SidedNote
asked_by_entry skips (Direct p v) = []
asked_by_entry skips (Refill p) = []
asked_by_entry skips (Emulate p v) = []
asked_by_entry skips (Begin page move node by) = asked_by (record { page = page.0; kind = move; node = node.0 }) by
asked_by_entry skips (Ack p page) = []
asked_by_entry skips (Finish page) = []
asked_by_entry skips (Load p v) = []
asked_by_entry skips (Unload p) = []
asked_by_entry skips (PacketIn place) = []
asked_by_entry skips (Discard place) = []
asked_by_entry skips (Skip k) = asked_at (slice_get skips k)
asked_by_entry skips (CellFails cell) = []
asked_by_entry skips (Ending end) = []

abbrev pub asks : List SkipEntry → List Event → List SidedNote
asks skips journal = flat_map (asked_by_entry skips) journal

-- ---- what each processor asked for

abbrev pub wish_in : Note → List Wish
wish_in (Made e) = []
wish_in (Asked page kind node) = record { page = page.0; kind = kind; node = node.0 } ∷ []
wish_in (Halted v) = []
wish_in (Ended end) = []
wish_in (Dead cell) = []

abbrev pub wishes_in : List Note → List Wish
wishes_in notes = flat_map wish_in notes

-- the moves that a journal says the plan asked for through a processor, begun or not, in order
abbrev pub wishes_by : ℕ → List SkipEntry → List Event → List Wish
wishes_by p skips journal = wishes_in (with_side p (asks skips journal))

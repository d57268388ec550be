-- Which note each entry makes, and which notes are of answers.
use Rattle.std.specs.Prelude.{ℕ, List, [], ◌∷◌}
use Rattle.base_words.specs.declared.events.Event.{Event}
use Rattle.base_words.specs.declared.events.Event.TheVariants.{Direct, Refill, Emulate, Begin, Ack, Finish, Load, Unload, PacketIn, Discard, Skip, CellFails, End as Ending}
use Rattle.shootdown.specs.declared.notes.Note.{Note}
use Rattle.shootdown.specs.declared.notes.Note.TheVariants.{Made, Asked, Halted, Ended, Dead}
use Rattle.shootdown.specs.declared.view.SidedNote.{SidedNote}
use Rattle.shootdown.specs.Notes.{sided}
use Rattle.isolation_law.specs.Parts.{SkipEntry}
use Rattle.guest_core.specs.Asks.{asked_by_entry}

-- the note of an entry that a processor makes: of what it does with its virtual processor, of a failure, and of what it asked for by
-- the plan
abbrev pub note_of_entry : ℕ → List SkipEntry → Event → List SidedNote
note_of_entry side skips (Direct p v) = sided p.0 (Made (Direct p v)) ∷ []
note_of_entry side skips (Refill p) = []
note_of_entry side skips (Emulate p v) = sided p.0 (Made (Emulate p v)) ∷ []
note_of_entry side skips (Begin page kind node by) = asked_by_entry skips (Begin page kind node by)
note_of_entry side skips (Ack p page) = []
note_of_entry side skips (Finish page) = []
note_of_entry side skips (Load p v) = sided p.0 (Made (Load p v)) ∷ []
note_of_entry side skips (Unload p) = sided p.0 (Made (Unload p)) ∷ []
note_of_entry side skips (PacketIn place) = []
note_of_entry side skips (Discard place) = []
note_of_entry side skips (Skip k) = asked_by_entry skips (Skip k)
note_of_entry side skips (CellFails c) = sided side (Made (CellFails c)) ∷ []
note_of_entry side skips (Ending end) = []

-- a note of an answer
abbrev pub IsAnswer : Note → Type 0
IsAnswer (Made e) = ⊥
IsAnswer (Asked page kind node) = ⊥
IsAnswer (Halted v) = Unit {0}
IsAnswer (Ended end) = Unit {0}
IsAnswer (Dead c) = Unit {0}

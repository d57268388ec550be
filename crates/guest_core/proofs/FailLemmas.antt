-- What is kept of a guest where a cell fails.
use Rattle.std.proofs.Common.{◌≡◌, ◌<◌, ⊎_elim, inl, inr, ℕ, Bool, true, false, List, [], ◌∷◌, ◌++◌, Option, Some, None, is_none, length, refl, sym, ap, ◌∙◌, subst, append_assoc, ◌&&◌, ◌||◌, ◌≤◌, arith, get_or, zero, suc, ◌≢◌, ◌+◌}
use Rattle.std.specs.Prelude.{slice_set}
use Rattle.std.proofs.lemmas.List.Elements.{All-cons}
use Rattle.base_words.specs.declared.events.End.{End}
use Rattle.base_words.specs.declared.events.End.TheVariants.{CellFailed, Halted, Budget}
use Rattle.base_words.specs.declared.events.Event.{Event}
use Rattle.base_words.specs.declared.events.Event.TheVariants.{CellFails, End as Ending}
use Rattle.base_words.specs.declared.ids.CellId.{CellId}
use Rattle.cell_depend.specs.Counters.{UsesState}
use Rattle.frame_words.specs.declared.view.View.{View}
use Rattle.private_machine.specs.Backing.{Page}
use Rattle.shootdown.specs.declared.notes.Note.TheVariants.{Made}
use Rattle.shootdown.specs.declared.view.SidedNote.{SidedNote}
use Rattle.shootdown.specs.Notes.{sided, Seat, Token}
use Rattle.isolation_law.specs.CellFailure.{end_by}
use Rattle.isolation_law.specs.CellUse.{lies_in, loaded_in, used_frames}
use Rattle.isolation_law.specs.EndRows.{CellFailsIn, ended}
use Rattle.isolation_law.specs.GuestState.{GuestState, is_dead}
use Rattle.isolation_law.specs.Phases.{GoesOn, owed, lingers}
use Rattle.isolation_law.specs.Run.{Run}
use Rattle.isolation_law.specs.Start.{Boot, start as started}
use Rattle.isolation_law.specs.WireHistory.{Tells, TakesNothing}
use Rattle.guest_course.specs.EndCalls.{letting_go}
use Rattle.guest_course.specs.FailCalls.{Marks, MayOutlive}
use Rattle.guest_course.specs.CourseView.{state_of}
use Rattle.guest_course.specs.declared.course.Course.{Course}
use Rattle.guest_core.specs.Holding.{HasFrames}
use Rattle.guest_core.specs.Kept.{Kept, IsKept}
use Rattle.guest_core.specs.Laws.{RowLaws, RunLaws, MoveLaws, TakeLaws}
use Rattle.guest_core.specs.Noting.{Outlives, HoldsOf}
use Rattle.guest_core.specs.Using.{AreUses}
use Rattle.guest_core.proofs.HandProofs.{Grows}
use Rattle.guest_core.proofs.KeptProofs.{kept-one, kept-answer, fail-due}
use Rattle.guest_core.proofs.LettingLemmas.{kept-closed, kept-silent, quiet-closing}
use Rattle.guest_core.proofs.RoomLemmas.{KeepsCalls, two-entries, room-used, as-used}
use Rattle.guest_core.proofs.WiringProofs.{AreQuiet, posted-same, quiet-one}
use Rattle.std.specs.List.{list_any}
use Rattle.guest_core.specs.EntryNotes.{IsAnswer}
use Rattle.guest_core.specs.GuestView.{entries_due, room_of, calls_room}
use Rattle.guest_core.specs.Wiring.{Posted}
use Rattle.guest_core.specs.declared.parts.Parts.{Parts}
use Rattle.guest_course.specs.CourseRules.{IsSound}
use Rattle.isolation_law.specs.Exchange.{Exchanged}
use Rattle.isolation_law.specs.UseChange.{UseChanged}
use Rattle.event_journal.specs.JournalView.{JournalView}
use Rattle.shootdown.specs.declared.notes.Note.{Note}
use Rattle.guest_core.proofs.EnterProofs.{of-these}
use Rattle.guest_core.proofs.HoldingLemmas.{frames-stay}
use Rattle.guest_core.proofs.UsingProofs.{uses-row}

no-some : {A : Type 0} (a : A) → None ≡ Some a → ⊥
no-some a e = cc

same-some : {A : Type 0} (a b : A) → Some a ≡ Some b → a ≡ b
same-some a b e = cc

-- a guest that goes on, or has ended otherwise, outlives a cell that is dead
pub on-outlives : (s : GuestState) (c : ℕ) → GoesOn s → is_dead s c ≡ true → Outlives s c
on-outlives s c on dead = record {
  dead = dead;
  stays = λ how. ⊎_elim (λ (e : s.end ≡ Some (end_by c)). no-some (end_by c) (sym on.not_ended ∙ e)) (λ (x : (s.end ≡ None) × (owed s ≡ Some (end_by c))). no-some (end_by c) (sym on.owes_no_end ∙ x.1)) how;
}

pub ended-outlives : (s : GuestState) (c : ℕ) (end : End) → s.end ≡ Some end → (end ≡ end_by c → ⊥) → is_dead s c ≡ true → Outlives s c
ended-outlives s c end is other dead = record {
  dead = dead;
  stays = λ how. ⊎_elim (λ (e : s.end ≡ Some (end_by c)). other (same-some end (end_by c) (sym is ∙ e))) (λ (x : (s.end ≡ None) × (owed s ≡ Some (end_by c))). no-some end (sym x.0 ∙ is)) how;
}

-- a failure sends and takes nothing
pub quiet-fails : (s t : GuestState) (c : ℕ) → CellFailsIn s c t → TakesNothing s t
quiet-fails s t c row = record { received = ap (λ (x : GuestState). x.received) row.after; discarded = ap (λ (x : GuestState). x.discarded) row.after; hand = ap (λ (x : GuestState). x.hand) row.after }

-- nor has a call less room after it
pub keeps-failing : (c d : Course) (cell : ℕ) → Marks c cell d → KeepsCalls c d
keeps-failing c d cell m = record {
  print_room = ap (λ (x : Course). x.devs.print_room) m.same;
  send_room = ap (λ (x : Course). x.devs.send_room) m.same;
  cells = ap (λ (x : Course). x.sent_from) m.same;
  received = ap (λ (x : Course). x.received) m.same;
  discarded = ap (λ (x : Course). x.discarded) m.same;
  begins = subst (λ (n : ℕ). c.pmap.room ≤ n) (sym (ap (λ (x : Course). x.pmap.room) m.same)) (omega arith);
  skips = ap (λ (x : Course). x.skips) m.same;
}

-- ---- the guest ends by it

-- the failure is noted, and the entries up to the end make no note
pub kept-failed : Grows → RowLaws → RunLaws → (b : Boot) (s t : GuestState) (journal : List Event) (pages : List Page) (c : CellId) (side : ℕ) (notes : List SidedNote) → Kept b s journal notes → side < length s.processors
    → Run s (CellFails c ∷ (letting_go 0 pages ++ Ending (CellFailed c) ∷ [])) t
    → Kept b t (journal ++ (CellFails c ∷ (letting_go 0 pages ++ Ending (CellFailed c) ∷ []))) (notes ++ sided side (Made (CellFails c)) ∷ [])
kept-failed grows w r b s t journal pages c side notes k there run =
    let a = run.0 in
    let m = run.1 in
    let first = kept-silent grows b s a journal notes k run.2 in
    let as-many = first.processors ∙ sym k.processors in
    let next = kept-one w r b a m journal notes (CellFails c) (sided side (Made (CellFails c))) first run.3 refl (subst (λ (n : ℕ). side < n) (sym as-many) there) in
    subst (λ (j : List Event). Kept b t j (notes ++ sided side (Made (CellFails c)) ∷ [])) (append_assoc journal (CellFails c ∷ []) (letting_go 0 pages ++ Ending (CellFailed c) ∷ []))
    (kept-closed grows w r b m t (journal ++ CellFails c ∷ []) pages (CellFailed c) (notes ++ sided side (Made (CellFails c)) ∷ []) next run.4)

pub quiet-failing : (s : GuestState) (pages : List Page) (c : CellId) → AreQuiet s (CellFails c ∷ (letting_go 0 pages ++ Ending (CellFailed c) ∷ []))
quiet-failing s pages c =
    let more = quiet-closing s pages (CellFailed c) in
    record { none = more.none; tell = λ t. All-cons (Tells t) (CellFails c) (letting_go 0 pages ++ Ending (CellFailed c) ∷ []) tt (more.tell t) }

-- what it holds and counts doesn't go by which cells have failed
pub frames-marked : (u : GuestState) (dead : List Bool) (view : View) → HasFrames u view → HasFrames (record u { dead = dead }) view
frames-marked u dead view h = record {
  holding = record { counted = h.holding.counted; same_generation = h.holding.same_generation; borrowed = h.holding.borrowed; within = h.holding.within };
  given_back = h.given_back;
}

pub uses-marked : (u : GuestState) (dead : List Bool) (counts : UsesState) → AreUses u counts → AreUses (record u { dead = dead }) counts
uses-marked u dead counts x = record { shape = x.shape; told = x.told; cells = x.cells; counts = x.counts }

-- ---- the guest goes on, or had ended

-- a guest after the failure of a cell whose entry and whose answer are noted
pub record Beyond (g : Parts) (c : CellId) (side : ℕ) (answer : Note) (d : Course) (journal : JournalView) (seat : Seat) : Type 0 where
  pub marks : Marks g.course c.0 d
  pub sound : IsSound d
  pub goes_on : GoesOn (state_of g.course) → GoesOn (state_of d)
  pub row : CellFailsIn (state_of g.course) c.0 (state_of d)
  pub there : side < length (state_of g.course).processors
  pub answers : IsAnswer answer
  pub holds : HoldsOf (state_of d) answer
  pub entries : journal.entries ≡ g.journal.entries ++ CellFails c ∷ []
  pub room : g.journal.room ≤ journal.room + 1
  pub notes_of : seat ≡ record g.seat { notes = (g.seat.notes ++ sided side (Made (CellFails c)) ∷ []) ++ sided side answer ∷ [] }

pub kept-beyond : RowLaws → RunLaws → MoveLaws → TakeLaws → (g : Parts) (c : CellId) (side : ℕ) (answer : Note) (d : Course) (journal : JournalView) (seat : Seat)
    → IsKept g → 2 ≤ room_of g.journal.room g.course → Exchanged (state_of g.course) (state_of d) [] [] → UseChanged (state_of g.course) (state_of d) [] [] → Beyond g c side answer d journal seat
    → IsKept (record g { course = d; journal = journal; seat = seat })
kept-beyond w r v x g c side answer d journal seat k had ex change b =
    let s = state_of g.course in
    let t = state_of d in
    let e : Event = CellFails c in
    let row = b.row in
    let around = w.around s t e row in
    let one = kept-one w r g.start s t g.journal.entries g.seat.notes e (sided side (Made e)) k.kept row refl b.there in
    let two = kept-answer r g.start t (g.journal.entries ++ e ∷ []) (g.seat.notes ++ sided side (Made e) ∷ []) (sided side answer) one (subst (λ (n : ℕ). side < n) (sym (w.processors s t e row)) b.there) b.answers b.holds in
    let room = two-entries g.journal.room (entries_due s) (calls_room g.course) had in
    record {
      sound = b.sound;
      seat = ap (λ (y : Seat). y.number) b.notes_of ∙ k.seat;
      booted = k.booted;
      kept = of-these g.start t _ _ _ _ b.entries (ap (λ (y : Seat). y.notes) b.notes_of) two;
      goes_on = λ on. b.goes_on (k.goes_on (sym (ap (λ (y : Course). y.ended) b.marks.same) ∙ on));
      frames = frames-stay s t _ ex around (ap (λ (y : Course). y.ended) b.marks.same) k.frames;
      used = uses-row w s t e g.uses row change (λ p. refl) k.used;
      at_home = k.at_home;
      owed = omega (arith, room, fail-due w v s t c row, b.room);
      few_guests = k.few_guests;
      wired = k.wired;
      posted = subst (λ (l : List Event). Posted t l g.wiring.passes) (sym b.entries) (posted-same x s t g.journal.entries (e ∷ []) g.wiring.passes k.posted (quiet-fails s t c.0 row) (ap (λ (y : GuestState). y.devices.sent) row.after) (ap (λ (y : GuestState). y.sent_from) row.after) around (quiet-one s e refl (λ y. tt)));
    }

-- what is left of room: the entry is one of two
pub room-failing : RowLaws → MoveLaws → (c d : Course) (cell : CellId) (room room' : ℕ) → Marks c cell.0 d → CellFailsIn (state_of c) cell.0 (state_of d) → room ≤ room' + 1 → room_of room c ≤ room_of room' d + 2
room-failing w v c d cell room room' marks row less = room-used room room' c d (as-used c d (keeps-failing c d cell.0 marks)) (omega (arith, fail-due w v (state_of c) (state_of d) cell row, less))

-- the cell is dead then
pub dead-then : (s t : GuestState) (c : ℕ) → CellFailsIn s c t → is_dead t c ≡ true
dead-then s t c row = subst (λ (y : GuestState). is_dead y c ≡ true) (sym row.after) (set-there s.dead c row.is_cell)
  where
    set-there : (l : List Bool) (n : ℕ) → n < length l → get_or (slice_set l n true) n false ≡ true
    set-there [] n lt = absurd (omega arith)
    set-there (y ∷ l) zero lt = refl
    set-there (y ∷ l) (suc n) lt = set-there l n (omega arith)

-- a guest that has ended, and not by the end of the plan, outlives each cell
pub lingering : (s : GuestState) (c : ℕ) (end : End) → s.end ≡ Some end → end ≢ Budget → is_dead s c ≡ false → MayOutlive s c
lingering s c end is other lives = record {
  phase = inr (ap lingers is ∙ by end other);
  lives = lives;
  unused = ap (λ (o : Option End). is_none o && rest) is;
}
  where
    rest : Bool
    rest = list_any (lies_in s.around c) (used_frames s) || loaded_in s.around c 0 s.processors

    by : (e : End) → e ≢ Budget → lingers (Some e) ≡ true
    by Halted not = refl
    by Budget not = absurd (not refl)
    by (CellFailed d) not = refl

-- nor has it ended by a cell that lives
pub other-end : RunLaws → (b : Boot) (journal : List Event) (s : GuestState) (c : CellId) → Run (started b) journal s → s.end ≡ Some (CellFailed c) → is_dead s c.0 ≡ false → ⊥
other-end r b journal s c run is lives = no (sym lives ∙ r.ended b journal s c.0 run (inl is))
  where
    no : false ≡ true → ⊥
    no e = cc

-- ---- the guest has ended by it

-- its state after the failure, once it has ended and then the cell is marked
pub failed-so : (s u t : GuestState) (c : CellId) (dead : List Bool) → u ≡ ended (CellFailed c) s → t ≡ record u { dead = dead } → dead ≡ slice_set u.dead c.0 true → t ≡ record (ended (CellFailed c) s) { dead = slice_set s.dead c.0 true }
failed-so s u t c dead closed marked is =
    let old : u.dead ≡ s.dead = ap (λ (x : GuestState). x.dead) closed in
    marked ∙ (λ i. record (closed i) { dead = (is ∙ ap (λ (l : List Bool). slice_set l c.0 true) old) i })

-- it sends and takes nothing
pub quiet-ended : (s t : GuestState) (c : CellId) → t ≡ record (ended (CellFailed c) s) { dead = slice_set s.dead c.0 true } → TakesNothing s t
quiet-ended s t c is = record { received = ap (λ (x : GuestState). x.received) is; discarded = ap (λ (x : GuestState). x.discarded) is; hand = ap (λ (x : GuestState). x.hand) is }

-- ---- the cell was dead already

-- a guest that hasn't ended by it outlives it
pub dead-outlives : (s : GuestState) (c : CellId) → is_dead s c.0 ≡ true → (s.end ≡ None → GoesOn s) → (s.end ≡ Some (CellFailed c) → ⊥) → Outlives s c.0
dead-outlives s c dead on other = record {
  dead = dead;
  stays = λ how. ⊎_elim other (λ (x : (s.end ≡ None) × (owed s ≡ Some (end_by c.0))). no-some (end_by c.0) (sym (on x.0).owes_no_end ∙ x.1)) how;
}

-- ---- two notes

-- what a seat and a token are told by two notes, one after the other
pub record TwoNotes (t l : Token) (a d : Seat) (number : ℕ) (x y : Note) : Type 0 where
  pub heard : d ≡ record a { notes = (a.notes ++ sided t.number x ∷ []) ++ sided t.number y ∷ [] }
  pub notes : d.notes ≡ a.notes ++ (sided t.number x ∷ (sided t.number y ∷ []))
  pub told : l ≡ record t { notes = t.notes ++ (sided number x ∷ (sided number y ∷ [])) }
  pub board : d.board ≡ a.board

pub two-notes : (t m l : Token) (a b d : Seat) (number : ℕ) (x y : Note) → a.number ≡ number
    → m ≡ record t { notes = t.notes ++ sided a.number x ∷ [] } → b ≡ record a { notes = a.notes ++ sided t.number x ∷ [] }
    → l ≡ record m { notes = m.notes ++ sided b.number y ∷ [] } → d ≡ record b { notes = b.notes ++ sided m.number y ∷ [] }
    → TwoNotes t l a d number x y
two-notes t m l a b d number x y own token seat token' seat' =
    let side : m.number ≡ t.number = ap (λ (z : Token). z.number) token in
    let of : b.number ≡ a.number = ap (λ (z : Seat). z.number) seat in
    let heard : d ≡ record a { notes = (a.notes ++ sided t.number x ∷ []) ++ sided t.number y ∷ [] } = seat' ∙ (λ i. record (seat i) { notes = (seat i).notes ++ sided (side i) y ∷ [] }) in
    let told : l ≡ record t { notes = (t.notes ++ sided a.number x ∷ []) ++ sided a.number y ∷ [] } = token' ∙ (λ i. record (token i) { notes = (token i).notes ++ sided (of i) y ∷ [] }) in
    record {
      heard = heard;
      notes = ap (λ (z : Seat). z.notes) heard ∙ append_assoc a.notes (sided t.number x ∷ []) (sided t.number y ∷ []);
      told = told ∙ ap (λ (n : List SidedNote). record t { notes = n }) (append_assoc t.notes (sided a.number x ∷ []) (sided a.number y ∷ [])) ∙ ap (λ (n : ℕ). record t { notes = t.notes ++ (sided n x ∷ (sided n y ∷ [])) }) own;
      board = ap (λ (z : Seat). z.board) heard;
    }

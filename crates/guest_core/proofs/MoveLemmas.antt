-- Moves of pages that are acknowledged, end or begin: what a guest holds and uses, and what is kept of it.
use Rattle.std.proofs.Common.{◌≡◌, ◌≢◌, ◌⊎◌, ⊎_elim, inl, inr, ℕ, zero, suc, ◌+◌, ◌<◌, ◌≤◌, ◌==◌, if◌then◌else◌, cond, Bool, true, false, List, [], ◌∷◌, ◌++◌, Option, Some, None, option_map, length, map, unwrap_or, refl, sym, ap, ◌∙◌, subst, arith}
use Rattle.std.specs.Prelude.{count_by}
use Rattle.std.proofs.lemmas.Bool.{eq-eqb}
use Rattle.std.proofs.lemmas.List.Sums.{sum_by-append, sum_by-cons}
use Rattle.base_words.specs.declared.events.End.{End}
use Rattle.base_words.specs.declared.events.Event.{Event}
use Rattle.base_words.specs.declared.events.Event.TheVariants.{Begin, Ack, Finish}
use Rattle.base_words.specs.declared.ids.NodeId.{NodeId}
use Rattle.base_words.specs.declared.ids.Ppn.{Ppn}
use Rattle.base_words.specs.declared.ids.ProcId.{ProcId}
use Rattle.base_words.specs.declared.moves.By.{By}
use Rattle.base_words.specs.declared.moves.MoveKind.{MoveKind}
use Rattle.base_words.specs.declared.moves.MoveKind.TheVariants as kinds
use Rattle.cell_depend.specs.CellUse.{lies_in as lies}
use Rattle.cell_depend.specs.Counters.{UsesState}
use Rattle.event_journal.specs.JournalView.{JournalView}
use Rattle.frame_words.specs.FrameWords.{frame_word}
use Rattle.frame_words.specs.Holders.{Holding}
use Rattle.frame_words.specs.Views.{times}
use Rattle.frame_words.specs.declared.view.View.{View}
use Rattle.private_machine.specs.Backing.{Change, Migrates, Replicates, Collapses, Breaks, TakesShared, GivesShared, Copy, Move, Page, page_at}
use Rattle.private_machine.specs.PageMove.{kind_of, gained}
use Rattle.pmap_table.specs.OpenMoves.{told}
use Rattle.pmap_table.specs.declared.open_move.OpenMove.{OpenMove}
use Rattle.isolation_law.specs.CellUse.{held, used_frames}
use Rattle.isolation_law.specs.Exchange.{count_of, Exchanged}
use Rattle.isolation_law.specs.GuestState.{GuestState, page, processor}
use Rattle.isolation_law.specs.Holdings.{is_frame}
use Rattle.isolation_law.specs.LoadRows.{Acks}
use Rattle.isolation_law.specs.MoveRows.{Begins, Finishes}
use Rattle.isolation_law.specs.Needs.{Need, none_of, for_change}
use Rattle.isolation_law.specs.Phases.{GoesOn}
use Rattle.isolation_law.specs.Surroundings.{Surroundings, cell_of_frame, home_cell}
use Rattle.isolation_law.specs.UseChange.{UseChanged}
use Rattle.wire_queue.specs.declared.lists.PassList.{PassList}
use Rattle.guest_course.specs.declared.course.Course.{Course}
use Rattle.guest_course.specs.CourseRules.{IsSound}
use Rattle.guest_course.specs.CourseView.{state_of}
use Rattle.guest_core.specs.EntryNotes.{note_of_entry}
use Rattle.guest_core.specs.GuestView.{entries_due, room_of}
use Rattle.guest_core.specs.Holding.{is_copy, IsHolding, HoldsCopies, HasFrames}
use Rattle.guest_core.specs.Kept.{Kept, IsKept}
use Rattle.guest_core.specs.Laws.{MoveLaws, RowLaws, RunLaws, TakeLaws}
use Rattle.guest_core.specs.Using.{AreUses, CountsCopies, IsShapeOf, frame_of, loaded_cells, rows_of}
use Rattle.guest_core.specs.Wiring.{Posted}
use Rattle.guest_core.specs.declared.parts.Parts.{Parts}
use Rattle.guest_core.proofs.GainLemmas.{held-now, used-now, holding-now, uses-now}
use Rattle.guest_core.proofs.HoldingLemmas.{nothing-held}
use Rattle.guest_core.proofs.KeptProofs.{begin-due, kept-none}
use Rattle.guest_core.proofs.RoomLemmas.{two-entries}
use Rattle.guest_core.proofs.LoadedCells.{cells-same}
use Rattle.guest_core.proofs.UsingProofs.{frames-counted, recounted}
use Rattle.guest_core.proofs.WiringProofs.{posted-same, quiet-one}

-- ---- frames that are no longer a guest's own, and are still held and counted

-- what was held is what is held now, and what was dropped
all-held : (test : ℕ → ℕ → Bool) (was now less : List Copy) → count_of test now + count_of test less ≡ count_of test was + count_of test [] → count_of test (now ++ less) ≡ count_of test was
all-held test was now less balance =
    let none : count_of test [] ≡ 0 = refl in
    sum_by-append (λ (c : Copy). cond {A = ℕ} (test c.frame c.generation) 1 0) now less ∙ omega (arith, none, balance)

pub holds-dropped : (s t : GuestState) (less : List Copy) (v : View) → Exchanged s t [] less → t.around ≡ s.around → IsHolding s v → HoldsCopies t.around (held t ++ less) v
holds-dropped s t less v ex around h =
    let same : (test : ℕ → ℕ → Bool) → count_of test (held t ++ less) ≡ count_of test (held s) = λ test. all-held test (held s) (held t) less (ex.balance test) in
    subst (λ (w : Surroundings). HoldsCopies w (held t ++ less) v) (sym around) (record {
      counted = λ frame. h.counted frame ∙ sym (same (λ f g. f == frame));
      same_generation = λ frame generation some. h.same_generation frame generation (subst (λ (n : ℕ). 0 < n) (same (is_copy frame generation)) some);
      borrowed = λ cell low. h.borrowed cell low
          ∙ sym (ap (λ (n : ℕ). if cell == home_cell s.around then 0 else n) (same (λ f g. cell_of_frame s.around f == cell)));
      within = λ frame some. h.within frame (subst (λ (n : ℕ). 0 < n) (same (λ f g. f == frame)) some);
    })

pub counts-dropped : (s t : GuestState) (less : List Copy) (uses : UsesState) → UseChanged s t [] less → t.around ≡ s.around → length t.processors ≡ length s.processors → ((r : ℕ) → (processor t r).loaded ≡ (processor s r).loaded)
    → AreUses s uses → CountsCopies t (used_frames t ++ less) uses
counts-dropped s t less uses ex around long loaded u = record {
  shape = u.shape;
  told = subst (λ (w : Surroundings). IsShapeOf w u.shape) (sym around) u.told;
  cells = u.cells;
  counts = recounted u.shape (rows_of s) (record { frames = map frame_of (used_frames t ++ less); loaded = loaded_cells t.around 0 t.processors }) uses
      (λ q. frames-counted u.shape q (used_frames t ++ less)
      ∙ all-held (λ frame generation. lies u.shape q (record { 0 = frame })) (used_frames s) (used_frames t) less (ex.balance (λ frame generation. lies u.shape q (record { 0 = frame })))
      ∙ sym (frames-counted u.shape q (used_frames s)))
      (ap (λ (w : Surroundings). loaded_cells w 0 t.processors) around ∙ cells-same s.around 0 s.processors t.processors long loaded) u.counts;
}

none-some : {A : Type 0} (a : A) → None ≡ Some a → ⊥
none-some a is = cc

-- ---- rows of moves take and send nothing

pub posted-ack : RowLaws → TakeLaws → (s t : GuestState) (journal : List Event) (passes : PassList) (p : ProcId) (q : Ppn) → Posted s journal passes → Acks s p.0 q.0 t → Posted t (journal ++ Ack p q ∷ []) passes
posted-ack w x s t journal passes p q posted row =
    posted-same x s t journal (Ack p q ∷ []) passes posted
    (record { received = ap (λ (g : GuestState). g.received) row.after; discarded = ap (λ (g : GuestState). g.discarded) row.after; hand = ap (λ (g : GuestState). g.hand) row.after })
    (ap (λ (g : GuestState). g.devices.sent) row.after) (ap (λ (g : GuestState). g.sent_from) row.after) (w.around s t (Ack p q) row) (quiet-one s (Ack p q) refl (λ g. tt))

pub posted-finish : RowLaws → TakeLaws → (s t : GuestState) (journal : List Event) (passes : PassList) (q : Ppn) → Posted s journal passes → Finishes s q.0 t → Posted t (journal ++ Finish q ∷ []) passes
posted-finish w x s t journal passes q posted row =
    posted-same x s t journal (Finish q ∷ []) passes posted
    (record { received = ap (λ (g : GuestState). g.received) row.after; discarded = ap (λ (g : GuestState). g.discarded) row.after; hand = ap (λ (g : GuestState). g.hand) row.after })
    (ap (λ (g : GuestState). g.devices.sent) row.after) (ap (λ (g : GuestState). g.sent_from) row.after) (w.around s t (Finish q) (inl row)) (quiet-one s (Finish q) refl (λ g. tt))

pub posted-begin : RowLaws → TakeLaws → (s t : GuestState) (journal : List Event) (passes : PassList) (q : Ppn) (kind : MoveKind) (node : NodeId) (by : By) → Posted s journal passes → Begins s q.0 kind node.0 by t → Posted t (journal ++ Begin q kind node by ∷ []) passes
posted-begin w x s t journal passes q kind node by posted row =
    posted-same x s t journal (Begin q kind node by ∷ []) passes posted
    (record { received = ap (λ (g : GuestState). g.received) row.after; discarded = ap (λ (g : GuestState). g.discarded) row.after; hand = ap (λ (g : GuestState). g.hand) row.after })
    (ap (λ (g : GuestState). g.devices.sent) row.after) (ap (λ (g : GuestState). g.sent_from) row.after) (w.around s t (Begin q kind node by) row) (quiet-one s (Begin q kind node by) refl (λ g. tt))

-- ---- what is kept after an entry of which no note is made

pub record Made (g : Parts) (e : Event) (d : Course) (holder : Holding) (uses : UsesState) (journal : JournalView) : Type 0 where
  pub sound : IsSound d
  pub kept : Kept g.start (state_of d) (g.journal.entries ++ e ∷ []) g.seat.notes
  pub goes_on : d.ended ≡ None → GoesOn (state_of d)
  pub frames : HasFrames (state_of d) holder.view
  pub used : AreUses (state_of d) uses
  pub owed : entries_due (state_of d) ≤ journal.room
  pub posted : Posted (state_of d) (g.journal.entries ++ e ∷ []) g.wiring.passes
  pub entries : journal.entries ≡ g.journal.entries ++ e ∷ []

pub kept-made : (g : Parts) (e : Event) (d : Course) (holder : Holding) (uses : UsesState) (journal : JournalView) → IsKept g → Made g e d holder uses journal → IsKept (record g { course = d; holder = holder; uses = uses; journal = journal })
kept-made g e d holder uses journal k m = record {
  sound = m.sound;
  seat = k.seat;
  booted = k.booted;
  kept = subst (λ (l : List Event). Kept g.start (state_of d) l g.seat.notes) (sym m.entries) m.kept;
  goes_on = m.goes_on;
  frames = m.frames;
  used = m.used;
  at_home = k.at_home;
  owed = m.owed;
  few_guests = k.few_guests;
  wired = k.wired;
  posted = subst (λ (l : List Event). Posted (state_of d) l g.wiring.passes) (sym m.entries) m.posted;
}

-- the begin of a move, with the frames that it takes: the holder has them and the counters count them beside the guest's own
pub begun-made : RowLaws → RunLaws → MoveLaws → TakeLaws → (g : Parts) (d : Course) (holder : Holding) (uses : UsesState) (journal : JournalView) (q : Ppn) (kind : MoveKind) (home : NodeId) (by : By) (more : List Copy)
    → IsKept g → 2 ≤ room_of g.journal.room g.course → IsSound d → GoesOn (state_of d) → (row : Begins (state_of g.course) q.0 kind home.0 by (state_of d))
    → Exchanged (state_of g.course) (state_of d) more [] → UseChanged (state_of g.course) (state_of d) more []
    → HoldsCopies (state_of g.course).around (more ++ held (state_of g.course)) holder.view → CountsCopies (state_of g.course) (more ++ used_frames (state_of g.course)) uses
    → note_of_entry 0 (state_of d).skips (Begin q kind home by) ≡ [] → journal.entries ≡ g.journal.entries ++ Begin q kind home by ∷ [] → g.journal.room ≤ journal.room + 1
    → Made g (Begin q kind home by) d holder uses journal
begun-made w r v x g d holder uses journal q kind home by more k had sound on row ex used holds counts quiet entries room =
    let s = state_of g.course in
    let t = state_of d in
    let e : Event = Begin q kind home by in
    let around = w.around s t e row in
    record {
      sound = sound;
      kept = kept-none w r g.start s t g.journal.entries g.seat.notes e k.kept row quiet;
      goes_on = λ is. on;
      frames = record { holding = holding-now s.around t (more ++ held s) holder.view (held-now s t more ex) around holds; given_back = λ end is. absurd (none-some end (sym on.not_ended ∙ is)) };
      used = uses-now s t (more ++ used_frames s) uses (used-now s t more used) around (ap (λ (y : GuestState). y.processors) row.after) counts;
      owed = omega (arith, begin-due w v s t q kind home by row, two-entries _ _ _ had, room);
      posted = posted-begin w x s t g.journal.entries g.wiring.passes q kind home by k.posted row;
      entries = entries;
    }

-- the course has another form, of which all is told that is told of the old one
pub kept-again : (g : Parts) (d : Course) → IsKept g → IsSound d → state_of d ≡ state_of g.course → IsKept (record g { course = d })
kept-again g d k sound same = record {
  sound = sound;
  seat = k.seat;
  booted = k.booted;
  kept = subst (λ (s : GuestState). Kept g.start s g.journal.entries g.seat.notes) (sym same) k.kept;
  goes_on = λ on. subst GoesOn (sym same) (k.goes_on (sym (ap (λ (s : GuestState). s.end) same) ∙ on));
  frames = subst (λ (s : GuestState). HasFrames s g.holder.view) (sym same) k.frames;
  used = subst (λ (s : GuestState). AreUses s g.uses) (sym same) k.used;
  at_home = k.at_home;
  owed = subst (λ (s : GuestState). entries_due s ≤ g.journal.room) (sym same) k.owed;
  few_guests = k.few_guests;
  wired = k.wired;
  posted = subst (λ (s : GuestState). Posted s g.journal.entries g.wiring.passes) (sym same) k.posted;
}

-- ---- a move that is open

same-some : {A : Type 0} (a b : A) → Some a ≡ Some b → a ≡ b
same-some a b is = ap (λ x. unwrap_or x a) is

-- what is told of it
pub told-move : (move : Option Move) (x : OpenMove) → Some x ≡ option_map told move → (m : Move) × (move ≡ Some m) × (m.waiting ≡ x.waiting)
told-move None x is = absurd (none-some x (sym is))
told-move (Some m) x is = (m, refl, ap (λ (o : OpenMove). o.waiting) (same-some (told m) x (sym is)))

pub told-none : (move : Option Move) → None ≡ option_map told move → move ≡ None
told-none None is = refl
told-none (Some m) is = absurd (none-some (told m) is)

-- a page with a move is there
pub moving-there : (pages : List Page) (q : ℕ) → (page_at pages q).move ≢ None → q < length pages
moving-there [] q moves = absurd (moves refl)
moving-there (g ∷ pages) zero moves = omega arith
moving-there (g ∷ pages) (suc q) moves = let rest = moving-there pages q moves in omega arith

-- ---- a move that takes no frame

pub gains-none : (change : Change) (kind : MoveKind) → kind_of change ≡ kind → (kind ≡ kinds.Break) ⊎ (kind ≡ kinds.Collapse) → gained change ≡ []
gains-none (Migrates target) kind is none = absurd (⊎_elim (λ (e : kind ≡ kinds.Break). (let no : kinds.Migrate ≡ kinds.Break = is ∙ e in cc)) (λ (e : kind ≡ kinds.Collapse). (let no : kinds.Migrate ≡ kinds.Collapse = is ∙ e in cc)) none)
gains-none (Replicates target) kind is none = absurd (⊎_elim (λ (e : kind ≡ kinds.Break). (let no : kinds.Replicate ≡ kinds.Break = is ∙ e in cc)) (λ (e : kind ≡ kinds.Collapse). (let no : kinds.Replicate ≡ kinds.Collapse = is ∙ e in cc)) none)
gains-none Collapses kind is none = refl
gains-none (Breaks target) kind is none = refl
gains-none (TakesShared target) kind is none = absurd (⊎_elim (λ (e : kind ≡ kinds.Break). (let no : kinds.TakeShared ≡ kinds.Break = is ∙ e in cc)) (λ (e : kind ≡ kinds.Collapse). (let no : kinds.TakeShared ≡ kinds.Collapse = is ∙ e in cc)) none)
gains-none (GivesShared target) kind is none = absurd (⊎_elim (λ (e : kind ≡ kinds.Break). (let no : kinds.GiveShared ≡ kinds.Break = is ∙ e in cc)) (λ (e : kind ≡ kinds.Collapse). (let no : kinds.GiveShared ≡ kinds.Collapse = is ∙ e in cc)) none)

-- ---- a guest with a page hasn't ended

some-first : (frame : ℕ) (c : Copy) (cs : List Copy) → c.frame ≡ frame → count_by (is_frame frame) (c ∷ cs) ≡ 0 → ⊥
some-first frame c cs own none =
    let first = sum_by-cons (λ (x : Copy). cond {A = ℕ} (x.frame == frame) 1 0) c cs in
    let one : cond {A = ℕ} (c.frame == frame) 1 0 ≡ 1 = ap (λ (b : Bool). cond {A = ℕ} b 1 0) (eq-eqb c.frame frame own) in
    omega (arith, first, one, none)

none-listed : (cs : List Copy) → ((frame : ℕ) → count_by (is_frame frame) cs ≡ 0) → cs ≡ []
none-listed [] none = refl
none-listed (c ∷ cs) none = absurd (some-first c.frame c cs refl (none c.frame))

pub goes-with-page : (s : GuestState) (v : View) (q : ℕ) → HasFrames s v → q < length s.pages → s.end ≡ None
goes-with-page s v q frames lt = by s.end refl
  where
    by : (end : Option End) → s.end ≡ end → s.end ≡ None
    by None e = e
    by (Some end) e =
        let gone = frames.given_back end e in
        let none = none-listed (held s) (λ frame. sym (frames.holding.counted frame) ∙ ap (times (frame_word frame)) gone) in
        absurd (omega (arith, lt, ap length (nothing-held s.pages s.spares none).0))

-- the move that a page needs before its bytes change
abbrev need : ℕ → MoveKind → Need
need q kind = record { page = q; kind = kind; operation = None }

pub needs-kind : (s : GuestState) (q : ℕ) (kind : MoveKind) → for_change s q ≡ Some (record { page = q; kind = kind; operation = None }) → (kind ≡ kinds.Break) ⊎ (kind ≡ kinds.Collapse)
needs-kind s q kind needs = by (page s q).shared (none_of (page s q).replicas) needs
  where
    by : (shared single : Bool) → (if shared then Some (need q kinds.Break) else if single then None else Some (need q kinds.Collapse)) ≡ Some (need q kind) → (kind ≡ kinds.Break) ⊎ (kind ≡ kinds.Collapse)
    by true single e = inl (sym (ap (λ (n : Need). n.kind) (same-some _ _ e)))
    by false true e = absurd (none-some _ e)
    by false false e = inr (sym (ap (λ (n : Need). n.kind) (same-some _ _ e)))

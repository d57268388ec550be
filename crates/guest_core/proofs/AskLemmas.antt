-- A move that is asked for begins, or is noted where it can't: what is kept of the guest, and what is answered.
use Rattle.std.proofs.Common.{◌≡◌, ◌≢◌, ℕ, ◌<◌, not, ◌&&◌, if◌then◌else◌, Bool, true, false, List, [], ◌∷◌, ◌++◌, Option, Some, None, Ok, Err, length, map, refl, sym, ap, ◌∙◌, subst}
use Rattle.std.specs.Prelude.{slice_get}
use Rattle.std.specs.declared.alloc.AllocError.{AllocError}
use Rattle.std.specs.List.{list_any}
use Rattle.std.proofs.lemmas.List.{map-append}
use Rattle.std.proofs.lemmas.List.Elements.{All-nil, All-cons}
use Rattle.atomic_table.specs.Seated.{TableId}
use Rattle.base_words.specs.declared.events.Event.{Event}
use Rattle.base_words.specs.declared.events.Event.TheVariants.{Begin, Skip}
use Rattle.base_words.specs.declared.ids.NodeId.{NodeId}
use Rattle.base_words.specs.declared.ids.Ppn.{Ppn}
use Rattle.base_words.specs.declared.ids.ProcId.{ProcId}
use Rattle.base_words.specs.declared.moves.By.{By}
use Rattle.base_words.specs.declared.moves.By.TheVariants.{Plan, Due, Step, Packet}
use Rattle.base_words.specs.declared.moves.MoveKind.{MoveKind}
use Rattle.base_words.specs.declared.moves.MoveKind.TheVariants.{Migrate, Replicate, Collapse, Break, TakeShared, GiveShared}
use Rattle.base_words.specs.declared.events.End.{End}
use Rattle.frame_words.specs.declared.view.View.{View}
use Rattle.private_machine.specs.Backing.{Page, copies, lies_on}
use Rattle.shootdown.specs.declared.view.SidedNote.{SidedNote}
use Rattle.shootdown.specs.Notes.{sided}
use Rattle.node_frames.specs.declared.answers.Shown.{Shown as Entry}
use Rattle.isolation_law.specs.Causes.{by_kind, by_page, by_cell, by_end, seeks_frame, first_cause}
use Rattle.isolation_law.specs.DuesFit.{DuesFit}
use Rattle.isolation_law.specs.GuestState.{GuestState, page, due_on, is_dead}
use Rattle.isolation_law.specs.MoveRows.{Asks, PlanAsks, DueAsks, Begins}
use Rattle.isolation_law.specs.Phases.{GoesOn}
use Rattle.isolation_law.specs.Needs.{none_of}
use Rattle.isolation_law.specs.Parts.{Wish, Cause, Ended, DeadCell, Shared, Replicated, SameNode, NoReplica, NoFrame, SkipEntry}
use Rattle.isolation_law.specs.SkipRow.{Skips, SkipAsked, asker}
use Rattle.isolation_law.specs.Start.{Boot}
use Rattle.isolation_law.specs.Surroundings.{Surroundings, cell_of_node, cell_of_processor}
use Rattle.isolation_law.specs.WireHistory.{TakesNothing}
use Rattle.guest_course.specs.CourseView.{state_of}
use Rattle.guest_course.specs.SkipView.{shown_of, skip_of}
use Rattle.guest_course.specs.declared.course.Course.{Course}
use Rattle.guest_course.specs.declared.skips.SkipEntry.{SkipEntry as Skipped}
use Rattle.guest_core.specs.Asks.{note_of, asked_at, asked_by}
use Rattle.guest_core.specs.EntryNotes.{note_of_entry}
use Rattle.guest_core.specs.GuestView.{Monitored}
use Rattle.guest_core.specs.Kept.{Kept}
use Rattle.guest_core.specs.Laws.{RowLaws, RunLaws}
use Rattle.guest_core.specs.MoveCalls.{AsksBy, IsPlanned, NodeShows, SeesCause, NotesSkip, AsksMove, told_by}
use Rattle.guest_core.specs.declared.answers.Asked.{Asked}
use Rattle.guest_core.specs.declared.answers.Asked.TheVariants as asked
use Rattle.guest_core.proofs.KeptProofs.{AreThere, kept-entry, kept-none}

-- ---- the place of a skip

pub last-of : {A : Type 0} (l : List A) (x : A) → slice_get (l ++ x ∷ []) (length l) ≡ Some x
last-of [] x = refl
last-of (y ∷ l) x = last-of l x

-- ---- who asked

-- the plan's ask is noted of its processor, the policy's isn't
pub told-sided : (s : GuestState) (p : ProcId) (wish : Wish) (by : By) → AsksBy s p wish by → map (sided p.0) (told_by by wish (Ok asked.Skipped)) ≡ asked_by wish by
told-sided s p wish (Plan q) is = ap (λ (r : ProcId). sided r.0 (note_of wish) ∷ []) (sym is.0)
told-sided s p wish (Due q) is = refl
told-sided s p wish (Step q) is = absurd is
told-sided s p wish Packet is = absurd is

pub told-none : (by : By) (wish : Wish) (waiting : List Bool) → told_by by wish (Ok (asked.Busy waiting)) ≡ []
told-none (Plan q) wish waiting = refl
told-none (Due q) wish waiting = refl
told-none (Step q) wish waiting = refl
told-none Packet wish waiting = refl

pub told-failed : (by : By) (wish : Wish) (e : AllocError) → told_by by wish (Err e) ≡ []
told-failed (Plan q) wish e = refl
told-failed (Due q) wish e = refl
told-failed (Step q) wish e = refl
told-failed Packet wish e = refl

pub told-begun : (by : By) (wish : Wish) → told_by by wish (Ok asked.Begun) ≡ told_by by wish (Ok asked.Skipped)
told-begun (Plan q) wish = refl
told-begun (Due q) wish = refl
told-begun (Step q) wish = refl
told-begun Packet wish = refl

asked-there : (s : GuestState) (p : ProcId) (wish : Wish) (by : By) → AsksBy s p wish by → p.0 < length s.processors → AreThere s (asked_by wish by)
asked-there s p wish (Plan q) is there = All-cons (λ (n : SidedNote). n.side < length s.processors) (sided q.0 (note_of wish)) [] (subst (λ (r : ProcId). r.0 < length s.processors) (sym is.0) there) (All-nil _)
asked-there s p wish (Due q) is there = All-nil _
asked-there s p wish (Step q) is there = absurd is
asked-there s p wish Packet is there = absurd is

pub is-asker : (s : GuestState) (p : ProcId) (wish : Wish) (by : By) → AsksBy s p wish by → asker by ≡ p.0
is-asker s p wish (Plan q) is = ap (λ (r : ProcId). r.0) is.0
is-asker s p wish (Due q) is = ap (λ (r : ProcId). r.0) is.0
is-asker s p wish (Step q) is = absurd is
is-asker s p wish Packet is = absurd is

plan-asks : (s : GuestState) (p q : ProcId) (wish : Wish) → AsksBy s p wish (Plan q) → IsPlanned s.around wish → PlanAsks s q.0 wish
plan-asks s p q wish is planned = record { planned = planned; not_due = subst (λ (r : ProcId). due_on s r.0 ≢ Some wish) (sym is.0) is.1 }

due-asks : (s : GuestState) (p q : ProcId) (wish : Wish) → AsksBy s p wish (Due q) → DuesFit s → DueAsks s q.0 wish
due-asks s p q wish is fit =
    let due : due_on s q.0 ≡ Some wish = ap (λ (r : ProcId). due_on s r.0) is.0 ∙ is.1 in
    record { is_due = due; seeks = fit.seeks q.0 wish due }

-- as a skip wants it, and a begin
pub asks-skip : (s : GuestState) (p : ProcId) (wish : Wish) (by : By) → AsksBy s p wish by → IsPlanned s.around wish → DuesFit s → SkipAsked s by wish
asks-skip s p wish (Plan q) is planned fit = plan-asks s p q wish is planned
asks-skip s p wish (Due q) is planned fit = due-asks s p q wish is fit
asks-skip s p wish (Step q) is planned fit = absurd is
asks-skip s p wish Packet is planned fit = absurd is

pub asks-begin : (s : GuestState) (p : ProcId) (wish : Wish) (by : By) → AsksBy s p wish by → IsPlanned s.around wish → DuesFit s → first_cause s p.0 wish ≡ None → Asks s by wish None
asks-begin s p wish (Plan q) is planned fit none = (plan-asks s p q wish is planned, ap (λ (r : ProcId). first_cause s r.0 wish) is.0 ∙ none, refl)
asks-begin s p wish (Due q) is planned fit none = (due-asks s p q wish is fit, ap (λ (r : ProcId). first_cause s r.0 wish) is.0 ∙ none, refl)
asks-begin s p wish (Step q) is planned fit none = absurd is
asks-begin s p wish Packet is planned fit none = absurd is

-- ---- what is kept

pub kept-skip : RowLaws → RunLaws → (b : Boot) (s t : GuestState) (journal : List Event) (notes : List SidedNote) (p : ProcId) (entry : SkipEntry) → AsksBy s p entry.wish entry.by → Kept b s journal notes → p.0 < length s.processors
    → Skips s (length s.skips) t → t.skips ≡ s.skips ++ entry ∷ [] → Kept b t (journal ++ Skip (length s.skips) ∷ []) (notes ++ asked_by entry.wish entry.by)
kept-skip w r b s t journal notes p entry is k there row added =
    let note : note_of_entry 0 t.skips (Skip (length s.skips)) ≡ asked_by entry.wish entry.by =
    ap (λ (l : List SkipEntry). asked_at (slice_get l (length s.skips))) added ∙ ap asked_at (last-of s.skips entry) in
    subst (λ (l : List SidedNote). Kept b t (journal ++ Skip (length s.skips) ∷ []) (notes ++ l)) note
    (kept-entry w r b s t journal notes (Skip (length s.skips)) 0 k row (subst (AreThere s) (sym note) (asked-there s p entry.wish entry.by is there)))

pub kept-begin : RowLaws → RunLaws → (b : Boot) (s t : GuestState) (journal : List Event) (notes : List SidedNote) (p : ProcId) (q : Ppn) (kind : MoveKind) (node : NodeId) (by : By) → AsksBy s p (record { page = q.0; kind = kind; node = node.0 }) by
    → Kept b s journal notes → p.0 < length s.processors → Begins s q.0 kind node.0 by t → Kept b t (journal ++ Begin q kind node by ∷ []) (notes ++ asked_by (record { page = q.0; kind = kind; node = node.0 }) by)
kept-begin w r b s t journal notes p q kind node by is k there row =
    kept-entry w r b s t journal notes (Begin q kind node by) 0 k row (asked-there s p (record { page = q.0; kind = kind; node = node.0 }) by is there)

pub kept-packet : RowLaws → RunLaws → (b : Boot) (s t : GuestState) (journal : List Event) (notes : List SidedNote) (q : Ppn) (kind : MoveKind) (node : NodeId) → Kept b s journal notes
    → Begins s q.0 kind node.0 Packet t → Kept b t (journal ++ Begin q kind node Packet ∷ []) notes
kept-packet w r b s t journal notes q kind node k row =
    kept-none w r b s t journal notes (Begin q kind node Packet) k row refl

-- the list of skips grows by what was put down
pub skips-added : (c d : Course) (entry : Skipped) → d.skips.items ≡ c.skips.items ++ entry ∷ [] → (state_of d).skips ≡ (state_of c).skips ++ skip_of entry ∷ []
skips-added c d entry is = ap (map skip_of) is ∙ map-append skip_of c.skips.items (entry ∷ [])

-- ---- how far the guest is

-- after a skip the guest goes on where it did
pub goes-on-skipped : (s t : GuestState) (k : ℕ) → Skips s k t → GoesOn s → GoesOn t
goes-on-skipped s t k row on = subst GoesOn (sym row.after) (record { not_ended = on.not_ended; owes_no_end = on.owes_no_end })

-- ---- a skip and a begin send and take nothing

pub quiet-skip : (s t : GuestState) (k : ℕ) → Skips s k t → TakesNothing s t
quiet-skip s t k row = record { received = ap (λ (x : GuestState). x.received) row.after; discarded = ap (λ (x : GuestState). x.discarded) row.after; hand = ap (λ (x : GuestState). x.hand) row.after }

pub quiet-begin : (s t : GuestState) (q : ℕ) (kind : MoveKind) (node : ℕ) (by : By) → Begins s q kind node by t → TakesNothing s t
quiet-begin s t q kind node by row = record { received = ap (λ (x : GuestState). x.received) row.after; discarded = ap (λ (x : GuestState). x.discarded) row.after; hand = ap (λ (x : GuestState). x.hand) row.after }

-- ---- what a skip answers

-- a cause that isn't the want of a frame
abbrev pub IsSeen : Option Cause → Type 0
IsSeen None = Unit {0}
IsSeen (Some Ended) = Unit {0}
IsSeen (Some (DeadCell cell)) = Unit {0}
IsSeen (Some Shared) = Unit {0}
IsSeen (Some Replicated) = Unit {0}
IsSeen (Some SameNode) = Unit {0}
IsSeen (Some NoReplica) = Unit {0}
IsSeen (Some (NoFrame list)) = ⊥

seen-if : (b : Bool) (x y : Option Cause) → IsSeen x → IsSeen y → IsSeen (if b then x else y)
seen-if true x y first second = first
seen-if false x y first second = second

seen-kind : (frames : ℕ) (kind : MoveKind) (node : ℕ) (g : Page) → IsSeen (by_kind frames kind node g)
seen-kind frames Migrate node g =
    seen-if (not (none_of g.replicas)) (Some Replicated) (if lies_on frames node g.master then Some SameNode else None) tt (seen-if (lies_on frames node g.master) (Some SameNode) None tt tt)
seen-kind frames Replicate node g = seen-if (list_any (lies_on frames node) (copies g)) (Some SameNode) None tt tt
seen-kind frames Collapse node g = seen-if (none_of g.replicas) (Some NoReplica) None tt tt
seen-kind frames Break node g = tt
seen-kind frames TakeShared node g = tt
seen-kind frames GiveShared node g = tt

seen-page : (frames : ℕ) (kind : MoveKind) (node : ℕ) (g : Page) → IsSeen (by_page frames kind node g)
seen-page frames kind node g = seen-if g.shared (Some Shared) (by_kind frames kind node g) tt (seen-kind frames kind node g)

seen-cell : (s : GuestState) (p : ℕ) (wish : Wish) → IsSeen (by_cell s p wish)
seen-cell s p wish =
    let at = cell_of_node s.around wish.node in
    let here = cell_of_processor s.around p in
    let rest = by_page s.around.frames wish.kind wish.node (page s wish.page) in
    let lost = seeks_frame wish.kind && is_dead s at in
    seen-if (is_dead s here) (Some (DeadCell here)) (if lost then Some (DeadCell at) else rest) tt (seen-if lost (Some (DeadCell at)) rest tt (seen-page s.around.frames wish.kind wish.node (page s wish.page)))

-- the first cause that holds is seen on the guest's state
pub seen-first : (s : GuestState) (p : ℕ) (wish : Wish) → IsSeen (first_cause s p wish)
seen-first s p wish = by s.end
  where
    by : (end : Option End) → IsSeen (by_end s p wish end)
    by None = seen-cell s p wish
    by (Some end) = tt

sees-it : (w : Surroundings) (lends : List ℕ) (home node : ℕ) (cause : Cause) (old new : View) → IsSeen (Some cause) → new ≡ old → SeesCause w lends home node cause old new
sees-it w lends home node Ended old new seen same = same
sees-it w lends home node (DeadCell cell) old new seen same = same
sees-it w lends home node Shared old new seen same = same
sees-it w lends home node Replicated old new seen same = same
sees-it w lends home node SameNode old new seen same = same
sees-it w lends home node NoReplica old new seen same = same
sees-it w lends home node (NoFrame list) old new seen same = absurd seen

skipped-with : (lends : List ℕ) (home : ℕ) (old new : Monitored) (p : ProcId) (by : By) (wish : Wish) (cause : Cause) (answer : Asked) → answer ≡ asked.Skipped → NotesSkip old by wish cause new
    → SeesCause old.state.around lends home wish.node cause old.view new.view → AsksMove lends home old p by wish new (Ok answer)
skipped-with lends home old new p by wish cause answer is n sees =
    subst (λ (a : Asked). AsksMove lends home old p by wish new (Ok a)) (sym is) (record { cause = cause; makes = n.makes; noted = n.noted; sees = sees })

-- with the first cause that holds
pub skip-asks : (lends : List ℕ) (home : ℕ) (old new : Monitored) (p : ProcId) (by : By) (wish : Wish) (cause : Cause) (answer : Asked) → answer ≡ asked.Skipped → first_cause old.state p.0 wish ≡ Some cause → NotesSkip old by wish cause new
    → AsksMove lends home old p by wish new (Ok answer)
skip-asks lends home old new p by wish cause answer is first n =
    skipped-with lends home old new p by wish cause answer is n (sees-it old.state.around lends home wish.node cause old.view new.view (subst IsSeen first (seen-first old.state p.0 wish)) n.view)

-- with what the node showed, by looks of which the holder's view tells
pub frame-asks : (lends : List ℕ) (home : ℕ) (old new : Monitored) (table : TableId) (view : View) (p : ProcId) (by : By) (wish : Wish) (shown : List Entry) (answer : Asked) → answer ≡ asked.Skipped
    → NodeShows old.state.around lends home wish.node shown old.view view → NotesSkip (record old { table = table; view = view }) by wish (NoFrame (map shown_of shown)) new → AsksMove lends home old p by wish new (Ok answer)
frame-asks lends home old new table view p by wish shown answer is shows n =
    subst (λ (a : Asked). AsksMove lends home old p by wish new (Ok a)) (sym is) (record {
      cause = NoFrame (map shown_of shown);
      makes = record { makes = record { journal = n.makes.makes.journal; run = n.makes.makes.run }; passes = n.makes.passes };
      noted = n.noted;
      sees = (shown, refl, subst (λ (v : View). NodeShows old.state.around lends home wish.node shown old.view v) (sym n.view) shows);
    })

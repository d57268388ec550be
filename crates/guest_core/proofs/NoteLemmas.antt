-- What a guest's seat has noted, with one entry or one answer more.
use Rattle.std.proofs.Common.{◌≡◌, ℕ, suc, ◌<◌, ◌==◌, if◌then◌else◌, Bool, true, false, ⊎_elim, inl, List, [], ◌∷◌, ◌++◌, Option, Some, None, length, get_or, refl, sym, ap, ◌∙◌, subst, arith, append_assoc, eq-eqb, cond}
use Rattle.std.specs.Prelude.{All, flat_map, slice_get}
use Rattle.std.proofs.lemmas.List.{append-nil}
use Rattle.std.proofs.lemmas.Bool.{eqb-true}
use Rattle.std.proofs.lemmas.List.Elements.{All-nil, All-cons, All-append, All-weaker, filter-append}
use Rattle.std.proofs.lemmas.List.Concat.{flat_map-append}
use Rattle.base_words.specs.declared.events.Event.{Event}
use Rattle.base_words.specs.declared.events.Event.TheVariants.{Direct, Refill, Emulate, Begin, Ack, Finish, Load, Unload, PacketIn, Discard, Skip, CellFails, End as Ending}
use Rattle.base_words.specs.declared.events.End.{End}
use Rattle.base_words.specs.declared.events.End.TheVariants.{Halted as ByHalt, Budget, CellFailed}
use Rattle.base_words.specs.declared.moves.By.{By}
use Rattle.base_words.specs.declared.moves.By.TheVariants.{Plan, Due, Step, Packet}
use Rattle.shootdown.specs.declared.notes.Note.{Note}
use Rattle.shootdown.specs.declared.notes.Note.TheVariants.{Made, Asked, Halted, Ended, Dead}
use Rattle.shootdown.specs.declared.view.SidedNote.{SidedNote}
use Rattle.shootdown.specs.Notes.{sided, with_side}
use Rattle.isolation_law.specs.Surroundings.{Surroundings, cell_of_processor}
use Rattle.isolation_law.specs.GuestState.{GuestState, processor, vcpu_of, is_dead}
use Rattle.isolation_law.specs.Parts.{Wish, SkipEntry}
use Rattle.isolation_law.specs.Phases.{GoesOn}
use Rattle.isolation_law.specs.CellFailure.{end_by, is_failure, EndsAs}
use Rattle.isolation_law.specs.EntryTells.{skip_of, AddsSkips}
use Rattle.isolation_law.specs.LiveCells.{UsesLive}
use Rattle.isolation_law.specs.LoadsIn.{loaded_after}
use Rattle.isolation_law.specs.MachineEvent.{Row}
use Rattle.isolation_law.specs.StepRows.{Emulates, EndsRead}
use Rattle.isolation_law.specs.Run.{Run}
use Rattle.isolation_law.specs.Start.{Boot, start}
use Rattle.guest_core.specs.Asks.{asked_by, asked_at, asked_by_entry, asks}
use Rattle.guest_core.specs.Noting.{is_noted, IsOwn, IsOwnNote, entry_of, made_in, noted, is_ask, asked_in, Outlives, EntryHolds, HoldsOf, is_step_of, is_failure_of, IsPastFailure, IsPastEnd, MayFollowEntry, MayFollow, AreInOrder, loaded_by_note, loaded_by, shows_loaded, IsNoted}
use Rattle.guest_core.specs.Laws.{RowLaws, RunLaws}
use Rattle.guest_core.specs.EntryNotes.{note_of_entry, IsAnswer}

-- ---- lists

with_side-more : (k : ℕ) (ns : List SidedNote) (n : SidedNote) → with_side k (ns ++ n ∷ []) ≡ with_side k ns ++ (if n.side == k then n.note ∷ [] else [])
with_side-more k [] n = refl
with_side-more k (x ∷ ns) n =
    let rest = with_side-more k ns n in
    by (x.side == k) rest
  where
    by : (b : Bool) → with_side k (ns ++ n ∷ []) ≡ with_side k ns ++ (if n.side == k then n.note ∷ [] else [])
        → (if b then x.note ∷ with_side k (ns ++ n ∷ []) else with_side k (ns ++ n ∷ [])) ≡ (if b then x.note ∷ with_side k ns else with_side k ns) ++ (if n.side == k then n.note ∷ [] else [])
    by true rest = ap (λ l. x.note ∷ l) rest
    by false rest = rest

loaded_by-more : (l : Option ℕ) (ns : List Note) (n : Note) → loaded_by l (ns ++ n ∷ []) ≡ loaded_by_note (loaded_by l ns) n
loaded_by-more l [] n = refl
loaded_by-more l (x ∷ ns) n = loaded_by-more (loaded_by_note l x) ns n

ordered-more : (w : Surroundings) (ns : List SidedNote) (n : SidedNote) → AreInOrder w ns → All (λ (m : SidedNote). MayFollow w m.note n) ns → AreInOrder w (ns ++ n ∷ [])
ordered-more w [] n o a = (All-nil (MayFollow w n.note), tt)
ordered-more w (x ∷ ns) n o a =
    (All-append (MayFollow w x.note) ns (n ∷ []) o.0 (All-cons (MayFollow w x.note) n [] (a 0 x (omega arith)) (All-nil _)), ordered-more w ns n o.1 (λ k d lt. a (suc k) d (omega arith)))

-- ---- what holds

true-false : true ≡ false → ⊥
true-false e = cc

outlives-on : RowLaws → (s t : GuestState) (e : Event) (c : ℕ) → Row s e t → Outlives s c → Outlives t c
outlives-on w s t e c row o = record {
  dead = w.stays_dead s t e c row o.dead;
  stays = λ so. (
      let is = w.outlives s t e c o.stays row so in
      true-false (sym o.dead ∙ (w.fails s t e c row (ap (is_failure c) is ∙ same c)).0));
}
  where
    same : (c : ℕ) → (c == c) ≡ true
    same c = eq-eqb c c refl

entry-on : RowLaws → (s t : GuestState) (e : Event) (old : Event) → Row s e t → EntryHolds s old → EntryHolds t old
entry-on w s t e (Direct p v) row h = tt
entry-on w s t e (Refill p) row h = tt
entry-on w s t e (Emulate p v) row h = tt
entry-on w s t e (Begin page kind node by) row h = tt
entry-on w s t e (Ack p page) row h = tt
entry-on w s t e (Finish page) row h = tt
entry-on w s t e (Load p v) row h = tt
entry-on w s t e (Unload p) row h = tt
entry-on w s t e (PacketIn place) row h = tt
entry-on w s t e (Discard place) row h = tt
entry-on w s t e (Skip place) row h = tt
entry-on w s t e (CellFails c) row h = w.stays_dead s t e c.0 row h
entry-on w s t e (Ending end) row h = tt

holds-on : RowLaws → (s t : GuestState) (e : Event) (n : Note) → Row s e t → HoldsOf s n → HoldsOf t n
holds-on w s t e (Made old) row h = entry-on w s t e old row h
holds-on w s t e (Asked page kind node) row h = tt
holds-on w s t e (Halted v) row h = w.halts s t e v.0 row h
holds-on w s t e (Ended end) row h = (w.ends s t e end row h.0, h.1)
holds-on w s t e (Dead c) row h = outlives-on w s t e c.0 row h

-- ---- what may come

-- a step is of a virtual processor that runs, on a processor of a cell that lives, of a guest that hasn't ended; and a cell that fails lived
pub record IsFresh (s : GuestState) (n : SidedNote) : Type 0 where
  pub on : (v : ℕ) → is_step_of v n.note ≡ true → s.end ≡ None
  pub running : (v : ℕ) → is_step_of v n.note ≡ true → (vcpu_of s v).halted ≡ false
  pub lives : (v : ℕ) → is_step_of v n.note ≡ true → is_dead s (cell_of_processor s.around n.side) ≡ false
  pub fails : (c : ℕ) → is_failure_of c n.note ≡ true → is_dead s c ≡ false

not-so : (b : Bool) → (b ≡ true → ⊥) → b ≡ false
not-so true never = absurd (never refl)
not-so false never = refl

past-failure : (s : GuestState) (c : ℕ) (n : SidedNote) → is_dead s c ≡ true → IsFresh s n → IsPastFailure s.around c n
past-failure s c n dead f = record {
  no_failure = not-so (is_failure_of c n.note) (λ is. true-false (sym dead ∙ f.fails c is));
  no_steps = λ there v. not-so (is_step_of v n.note) (λ is. true-false (sym dead ∙ ap (is_dead s) (sym there) ∙ f.lives v is));
}

no-step-past : (s : GuestState) (end : End) (n : SidedNote) → s.end ≡ Some end → IsFresh s n → (v : ℕ) → is_step_of v n.note ≡ false
no-step-past s end n ended f v = not-so (is_step_of v n.note) (λ is. none (sym (f.on v is) ∙ ended))
  where
    none : None ≡ Some end → ⊥
    none e = cc

past-end : (s : GuestState) (end : End) (n : SidedNote) → s.end ≡ Some end → ((c : ℕ) → EndsAs s (end_by c) → is_dead s c ≡ true) → IsFresh s n → IsPastEnd end n.note
past-end s ByHalt n ended dead f = no-step-past s ByHalt n ended f
past-end s Budget n ended dead f = no-step-past s Budget n ended f
past-end s (CellFailed c) n ended dead f = (no-step-past s (CellFailed c) n ended f, (past-failure s c.0 n (dead c.0 (inl ended)) f).no_failure)

follows-entry : (s : GuestState) (e : Event) (n : SidedNote) → EntryHolds s e → IsFresh s n → MayFollowEntry s.around e n
follows-entry s (Direct p v) n h f = tt
follows-entry s (Refill p) n h f = tt
follows-entry s (Emulate p v) n h f = tt
follows-entry s (Begin page kind node by) n h f = tt
follows-entry s (Ack p page) n h f = tt
follows-entry s (Finish page) n h f = tt
follows-entry s (Load p v) n h f = tt
follows-entry s (Unload p) n h f = tt
follows-entry s (PacketIn place) n h f = tt
follows-entry s (Discard place) n h f = tt
follows-entry s (Skip place) n h f = tt
follows-entry s (CellFails c) n h f = past-failure s c.0 n h f
follows-entry s (Ending end) n h f = tt

may-follow : (s : GuestState) (m : Note) (n : SidedNote) → ((c : ℕ) → EndsAs s (end_by c) → is_dead s c ≡ true) → HoldsOf s m → IsFresh s n → MayFollow s.around m n
may-follow s (Made e) n dead h f = follows-entry s e n h f
may-follow s (Asked page kind node) n dead h f = tt
may-follow s (Halted v) n dead h f = not-so (is_step_of v.0 n.note) (λ is. true-false (sym h ∙ f.running v.0 is))
may-follow s (Ended end) n dead h f = past-end s end n h.0 dead f
may-follow s (Dead c) n dead h f = past-failure s c.0 n h.dead f

-- ---- what was asked for

adds-on : (old new : List SkipEntry) (places : List ℕ) → AddsSkips old places new → (rest : List SkipEntry) × (new ≡ old ++ rest)
adds-on old new [] adds = ([], adds ∙ sym (append-nil old))
adds-on old new (k ∷ places) adds =
    let r = adds-on (old ++ adds.1.0 ∷ []) new places adds.1.1 in
    (adds.1.0 ∷ r.0, r.1 ∙ append_assoc old (adds.1.0 ∷ []) r.0)

at-front : (xs ys : List SkipEntry) (x : SkipEntry) → slice_get ((xs ++ x ∷ []) ++ ys) (length xs) ≡ Some x
at-front [] ys x = refl
at-front (y ∷ xs) ys x = at-front xs ys x

-- a list of skips that goes on tells the same of each skip of which the journal told
module _ where
  one-same : (old mid new : List SkipEntry) (e : Event) (more : List SkipEntry) → AddsSkips old (skip_of e) mid → (rest : List SkipEntry) → new ≡ mid ++ rest → asked_by_entry (new ++ more) e ≡ asked_by_entry new e
  one-same old mid new (Direct p v) more adds rest e = refl
  one-same old mid new (Refill p) more adds rest e = refl
  one-same old mid new (Emulate p v) more adds rest e = refl
  one-same old mid new (Begin page kind node by) more adds rest e = refl
  one-same old mid new (Ack p page) more adds rest e = refl
  one-same old mid new (Finish page) more adds rest e = refl
  one-same old mid new (Load p v) more adds rest e = refl
  one-same old mid new (Unload p) more adds rest e = refl
  one-same old mid new (PacketIn place) more adds rest e = refl
  one-same old mid new (Discard place) more adds rest e = refl
  one-same old mid new (Skip k) more adds rest e =
      let entry = adds.1.0 in
      let is : new ≡ (old ++ entry ∷ []) ++ rest = e ∙ ap (λ (l : List SkipEntry). l ++ rest) adds.1.1 in
      let here : slice_get new k ≡ Some entry = ap (slice_get new) adds.0 ∙ ap (λ (l : List SkipEntry). slice_get l (length old)) is ∙ at-front old rest entry in
      let there : slice_get (new ++ more) k ≡ Some entry =
      ap (slice_get (new ++ more)) adds.0 ∙ ap (λ (l : List SkipEntry). slice_get (l ++ more) (length old)) is ∙ ap (λ (l : List SkipEntry). slice_get l (length old)) (append_assoc (old ++ entry ∷ []) rest more) ∙ at-front old (rest ++ more) entry in
      ap asked_at (there ∙ sym here)
  one-same old mid new (CellFails cell) more adds rest e = refl
  one-same old mid new (Ending end) more adds rest e = refl

  -- the places of an entry come first
  split-adds : (old new : List SkipEntry) (first next : List ℕ) → AddsSkips old (first ++ next) new → (mid : List SkipEntry) × AddsSkips old first mid × AddsSkips mid next new
  split-adds old new [] next adds = (old, refl, adds)
  split-adds old new (k ∷ first) next adds =
      let r = split-adds (old ++ adds.1.0 ∷ []) new first next adds.1.1 in
      (r.0, (adds.0, (adds.1.0, r.1)), r.2)

  pub asks-on : (journal : List Event) (old new more : List SkipEntry) → AddsSkips old (flat_map skip_of journal) new → asks (new ++ more) journal ≡ asks new journal
  asks-on [] old new more adds = refl
  asks-on (e ∷ journal) old new more adds =
      let r = split-adds old new (skip_of e) (flat_map skip_of journal) adds in
      let rest = adds-on r.0 new (flat_map skip_of journal) r.2 in
      (λ i. one-same old r.0 new e more r.1 rest.0 rest.1 i ++ asks-on journal r.0 new more r.2 i)

-- ---- one entry more

asked-made : (wish : Wish) (by : By) → made_in (asked_by wish by) ≡ []
asked-made wish (Plan p) = refl
asked-made wish (Due p) = refl
asked-made wish (Step p) = refl
asked-made wish Packet = refl

at-made : (o : Option SkipEntry) → made_in (asked_at o) ≡ []
at-made None = refl
at-made (Some entry) = asked-made entry.wish entry.by

-- its note tells of it, where it is one of which notes are made
entry-made : (side : ℕ) (skips : List SkipEntry) (e : Event) → made_in (note_of_entry side skips e) ≡ noted (e ∷ [])
entry-made side skips (Direct p v) = refl
entry-made side skips (Refill p) = refl
entry-made side skips (Emulate p v) = refl
entry-made side skips (Begin page kind node by) = asked-made _ by
entry-made side skips (Ack p page) = refl
entry-made side skips (Finish page) = refl
entry-made side skips (Load p v) = refl
entry-made side skips (Unload p) = refl
entry-made side skips (PacketIn place) = refl
entry-made side skips (Discard place) = refl
entry-made side skips (Skip k) = at-made (slice_get skips k)
entry-made side skips (CellFails c) = refl
entry-made side skips (Ending end) = refl

asked-asked : (wish : Wish) (by : By) → asked_in (asked_by wish by) ≡ asked_by wish by
asked-asked wish (Plan p) = refl
asked-asked wish (Due p) = refl
asked-asked wish (Step p) = refl
asked-asked wish Packet = refl

at-asked : (o : Option SkipEntry) → asked_in (asked_at o) ≡ asked_at o
at-asked None = refl
at-asked (Some entry) = asked-asked entry.wish entry.by

entry-asked : (side : ℕ) (skips : List SkipEntry) (e : Event) → asked_in (note_of_entry side skips e) ≡ asks skips (e ∷ [])
entry-asked side skips (Direct p v) = refl
entry-asked side skips (Refill p) = refl
entry-asked side skips (Emulate p v) = refl
entry-asked side skips (Begin page kind node by) = asked-asked _ by ∙ sym (append-nil (asked_by_entry skips (Begin page kind node by)))
entry-asked side skips (Ack p page) = refl
entry-asked side skips (Finish page) = refl
entry-asked side skips (Load p v) = refl
entry-asked side skips (Unload p) = refl
entry-asked side skips (PacketIn place) = refl
entry-asked side skips (Discard place) = refl
entry-asked side skips (Skip k) = at-asked (slice_get skips k) ∙ sym (append-nil (asked_by_entry skips (Skip k)))
entry-asked side skips (CellFails c) = refl
entry-asked side skips (Ending end) = refl

-- what the note of an entry is: none, one of an ask, or one of the entry itself
record IsNoteOf (s t : GuestState) (e : Event) (n : SidedNote) : Type 0 where
  own : IsOwn n
  holds : HoldsOf t n.note
  fresh : IsFresh s n
  loaded : (r : ℕ) → loaded_after e r (processor s r).loaded ≡ (if n.side == r then loaded_by_note (processor s r).loaded n.note else (processor s r).loaded)

same-either : {A : Type 0} (b : Bool) (x : A) → x ≡ (if b then x else x)
same-either true x = refl
same-either false x = refl

turned : (a b : ℕ) → (a == b) ≡ (b == a)
turned a b = grind arith

false-true : false ≡ true → ⊥
false-true e = cc

asks-note : (s t : GuestState) (e : Event) (side : ℕ) (wish : Wish) → ((r : ℕ) → loaded_after e r (processor s r).loaded ≡ (processor s r).loaded) → IsNoteOf s t e (sided side (Asked (record { 0 = wish.page }) wish.kind (record { 0 = wish.node })))
asks-note s t e side wish same = record {
  own = tt;
  holds = tt;
  fresh = record { on = λ v is. absurd (false-true is); running = λ v is. absurd (false-true is); lives = λ v is. absurd (false-true is); fails = λ c is. absurd (false-true is) };
  loaded = λ r. same r ∙ same-either (side == r) (processor s r).loaded;
}

-- all notes of an entry: one at most
abbrev AreNotesOf : (s t : GuestState) (e : Event) → List SidedNote → Type 0
AreNotesOf s t e [] = (r : ℕ) → loaded_after e r (processor s r).loaded ≡ (processor s r).loaded
AreNotesOf s t e (n ∷ []) = IsNoteOf s t e n
AreNotesOf s t e (n ∷ m ∷ ns) = ⊥

asked-notes : (s t : GuestState) (e : Event) (wish : Wish) (by : By) → ((r : ℕ) → loaded_after e r (processor s r).loaded ≡ (processor s r).loaded) → AreNotesOf s t e (asked_by wish by)
asked-notes s t e wish (Plan p) same = asks-note s t e p.0 wish same
asked-notes s t e wish (Due p) same = same
asked-notes s t e wish (Step p) same = same
asked-notes s t e wish Packet same = same

at-notes : (s t : GuestState) (e : Event) (o : Option SkipEntry) → ((r : ℕ) → loaded_after e r (processor s r).loaded ≡ (processor s r).loaded) → AreNotesOf s t e (asked_at o)
at-notes s t e None same = same
at-notes s t e (Some entry) same = asked-notes s t e entry.wish entry.by same

step-fresh : RowLaws → (s : GuestState) (p v : ℕ) (n : SidedNote) → UsesLive s → GoesOn s → (processor s p).loaded ≡ Some v → (vcpu_of s v).halted ≡ false → n.side ≡ p
    → ((u : ℕ) → is_step_of u n.note ≡ (v == u)) → ((c : ℕ) → is_failure_of c n.note ≡ false) → IsFresh s n
step-fresh w s p v n live on loaded running side step fail = record {
  on = λ u is. on.not_ended;
  running = λ u is. ap (λ (k : ℕ). (vcpu_of s k).halted) (sym (eqb-true v u (sym (step u) ∙ is))) ∙ running;
  lives = λ u is. ap (λ (k : ℕ). is_dead s (cell_of_processor s.around k)) side ∙ w.alive s p v live on loaded;
  fails = λ c is. absurd (false-true (sym (fail c) ∙ is));
}

quiet-fresh : (s : GuestState) (n : SidedNote) → ((u : ℕ) → is_step_of u n.note ≡ false) → ((c : ℕ) → is_failure_of c n.note ≡ false) → IsFresh s n
quiet-fresh s n step fail = record {
  on = λ u is. absurd (false-true (sym (step u) ∙ is));
  running = λ u is. absurd (false-true (sym (step u) ∙ is));
  lives = λ u is. absurd (false-true (sym (step u) ∙ is));
  fails = λ c is. absurd (false-true (sym (fail c) ∙ is));
}

swapped : (a b : ℕ) (x y : Option ℕ) → (if a == b then x else y) ≡ (if b == a then x else y)
swapped a b x y = ap (λ (c : Bool). if c then x else y) (turned a b)

entry-notes : RowLaws → (s t : GuestState) (e : Event) (side : ℕ) → UsesLive s → Row s e t → AreNotesOf s t e (note_of_entry side t.skips e)
entry-notes w s t (Direct p v) side live row = record {
  own = refl;
  holds = tt;
  fresh = step-fresh w s p.0 v.0 (sided p.0 (Made (Direct p v))) live row.goes_on row.runs.loaded row.runs.running refl (λ u. refl) (λ c. refl);
  loaded = λ r. same-either (p.0 == r) (processor s r).loaded;
}
entry-notes w s t (Refill p) side live row = λ r. refl
entry-notes w s t (Emulate p v) side live row = record {
  own = refl;
  holds = tt;
  fresh = ⊎_elim
      (λ (x : Emulates s p.0 v.0 t). step-fresh w s p.0 v.0 (sided p.0 (Made (Emulate p v))) live x.traps.goes_on x.traps.runs.loaded x.traps.runs.running refl (λ u. refl) (λ c. refl))
      (λ (x : EndsRead s p.0 v.0 t). step-fresh w s p.0 v.0 (sided p.0 (Made (Emulate p v))) live x.traps.goes_on x.traps.runs.loaded x.traps.runs.running refl (λ u. refl) (λ c. refl))
      row;
  loaded = λ r. same-either (p.0 == r) (processor s r).loaded;
}
entry-notes w s t (Begin page kind node by) side live row = asked-notes s t (Begin page kind node by) _ by (λ r. refl)
entry-notes w s t (Ack p page) side live row = λ r. refl
entry-notes w s t (Finish page) side live row = λ r. refl
entry-notes w s t (Load p v) side live row = record {
  own = refl;
  holds = tt;
  fresh = quiet-fresh s (sided p.0 (Made (Load p v))) (λ u. refl) (λ c. refl);
  loaded = λ r. swapped r p.0 (Some v.0) (processor s r).loaded;
}
entry-notes w s t (Unload p) side live row = record {
  own = refl;
  holds = tt;
  fresh = quiet-fresh s (sided p.0 (Made (Unload p))) (λ u. refl) (λ c. refl);
  loaded = λ r. swapped r p.0 None (processor s r).loaded;
}
entry-notes w s t (PacketIn place) side live row = λ r. refl
entry-notes w s t (Discard place) side live row = λ r. refl
entry-notes w s t (Skip k) side live row = at-notes s t (Skip k) (slice_get t.skips k) (λ r. refl)
entry-notes w s t (CellFails c) side live row = record {
  own = tt;
  holds = (w.fails s t (CellFails c) c.0 row (eq-eqb c.0 c.0 refl)).1;
  fresh = record {
    on = λ v is. absurd (false-true is);
    running = λ v is. absurd (false-true is);
    lives = λ v is. absurd (false-true is);
    fails = λ d is. (w.fails s t (CellFails c) d row is).0;
  };
  loaded = λ r. same-either (side == r) (processor s r).loaded;
}
entry-notes w s t (Ending end) side live row = λ r. refl

holds-all : RowLaws → (s t : GuestState) (e : Event) (notes : List SidedNote) → Row s e t → All (λ (n : SidedNote). HoldsOf s n.note) notes → All (λ (n : SidedNote). HoldsOf t n.note) notes
holds-all w s t e notes row h = All-weaker (λ (n : SidedNote). HoldsOf s n.note) (λ (n : SidedNote). HoldsOf t n.note) (λ n k. holds-on w s t e n.note row k) notes h

-- what the seat noted grows by the notes of an entry
grown : RowLaws → (s t : GuestState) (e : Event) (notes more : List SidedNote) → Row s e t → ((c : ℕ) → EndsAs s (end_by c) → is_dead s c ≡ true) → AreNotesOf s t e more → All (λ (n : SidedNote). n.side < length s.processors) more
    → All (λ (n : SidedNote). n.side < length s.processors) notes → All IsOwn notes → All (λ (n : SidedNote). HoldsOf s n.note) notes → AreInOrder s.around notes
    → ((p : ℕ) → p < length s.processors → shows_loaded (with_side p notes) ≡ (processor s p).loaded)
    → All (λ (n : SidedNote). n.side < length t.processors) (notes ++ more) × All IsOwn (notes ++ more) × All (λ (n : SidedNote). HoldsOf t n.note) (notes ++ more) × AreInOrder t.around (notes ++ more)
    × ((p : ℕ) → p < length t.processors → shows_loaded (with_side p (notes ++ more)) ≡ (processor t p).loaded)
grown w s t e notes [] row dead none there sides own holds ordered loaded =
    let nil = append-nil notes in (
      subst (All (λ (n : SidedNote). n.side < length t.processors)) (sym nil) (subst (λ (k : ℕ). All (λ (n : SidedNote). n.side < k) notes) (sym (w.processors s t e row)) sides),
      subst (All IsOwn) (sym nil) own,
      subst (All (λ (n : SidedNote). HoldsOf t n.note)) (sym nil) (holds-all w s t e notes row holds),
      subst (AreInOrder t.around) (sym nil) (subst (λ (x : Surroundings). AreInOrder x notes) (sym (w.around s t e row)) ordered),
      λ p lt. ap (λ (l : List SidedNote). shows_loaded (with_side p l)) nil ∙ loaded p (subst (λ (k : ℕ). p < k) (w.processors s t e row) lt) ∙ sym (w.loaded s t e p row ∙ none p),
    )
grown w s t e notes (n ∷ m ∷ ns) row dead are there sides own holds ordered loaded = absurd are
grown w s t e notes (n ∷ []) row dead is there sides own holds ordered loaded = (
  subst (λ (k : ℕ). All (λ (x : SidedNote). x.side < k) (notes ++ n ∷ [])) (sym (w.processors s t e row)) (All-append (λ (x : SidedNote). x.side < length s.processors) notes (n ∷ []) sides there),
  All-append IsOwn notes (n ∷ []) own (All-cons IsOwn n [] is.own (All-nil IsOwn)),
  All-append (λ (x : SidedNote). HoldsOf t x.note) notes (n ∷ []) (holds-all w s t e notes row holds) (All-cons (λ (x : SidedNote). HoldsOf t x.note) n [] is.holds (All-nil _)),
  subst (λ (x : Surroundings). AreInOrder x (notes ++ n ∷ [])) (sym (w.around s t e row)) (ordered-more s.around notes n ordered (λ k d lt. may-follow s (get_or notes k d).note n dead (holds k d lt) is.fresh)),
  λ p lt. ap shows_loaded (with_side-more p notes n) ∙ at p (loaded p (subst (λ (k : ℕ). p < k) (w.processors s t e row) lt)) ∙ sym (w.loaded s t e p row ∙ is.loaded p),
)
  where
    at : (r : ℕ) → shows_loaded (with_side r notes) ≡ (processor s r).loaded
        → shows_loaded (with_side r notes ++ (if n.side == r then n.note ∷ [] else [])) ≡ (if n.side == r then loaded_by_note (processor s r).loaded n.note else (processor s r).loaded)
    at r same = by (n.side == r)
      where
        by : (b : Bool) → shows_loaded (with_side r notes ++ (if b then n.note ∷ [] else [])) ≡ (if b then loaded_by_note (processor s r).loaded n.note else (processor s r).loaded)
        by true = loaded_by-more None (with_side r notes) n.note ∙ ap (λ l. loaded_by_note l n.note) same
        by false = ap shows_loaded (append-nil (with_side r notes)) ∙ same

flat-one : (notes more : List SidedNote) → made_in (notes ++ more) ≡ made_in notes ++ made_in more
flat-one notes more = flat_map-append (λ (n : SidedNote). entry_of n.note) notes more

filter-one : (journal : List Event) (e : Event) → noted (journal ++ e ∷ []) ≡ noted journal ++ noted (e ∷ [])
filter-one journal e = filter-append is_noted journal (e ∷ [])

asks-more : (skips more : List SkipEntry) (journal : List Event) (e : Event) (new : List SkipEntry) → new ≡ skips ++ more → AddsSkips [] (flat_map skip_of journal) skips → asks new (journal ++ e ∷ []) ≡ asks skips journal ++ asks new (e ∷ [])
asks-more skips more journal e new is adds =
    flat_map-append (asked_by_entry new) journal (e ∷ [])
    ∙ ap (λ (l : List SidedNote). l ++ asks new (e ∷ [])) (ap (λ (l : List SkipEntry). asks l journal) is ∙ asks-on journal [] skips more adds)

pub noted-entry : RowLaws → RunLaws → (b : Boot) (s t : GuestState) (journal : List Event) (notes : List SidedNote) (e : Event) (side : ℕ) → Run (start b) journal s → IsNoted s journal notes → Row s e t
    → All (λ (n : SidedNote). n.side < length s.processors) (note_of_entry side t.skips e) → IsNoted t (journal ++ e ∷ []) (notes ++ note_of_entry side t.skips e)
noted-entry w r b s t journal notes e side run old row there =
    let more = note_of_entry side t.skips e in
    let g = grown w s t e notes more row (λ c. r.ended b journal s c run) (entry-notes w s t e side (r.live b journal s run) row) there old.sides old.own old.holds old.ordered old.loaded in
    let adds = adds-on s.skips t.skips (skip_of e) (w.skips s t e row) in
    record {
      sides = g.0;
      own = g.1;
      made = flat-one notes more ∙ (λ i. old.made i ++ entry-made side t.skips e i) ∙ sym (filter-one journal e);
      asked = filter-append (λ (n : SidedNote). is_ask n.note) notes more ∙ (λ i. old.asked i ++ entry-asked side t.skips e i) ∙ sym (asks-more s.skips adds.0 journal e t.skips adds.1 (r.skips b journal s run));
      holds = g.2;
      ordered = g.3;
      loaded = g.4;
    }

-- ---- an answer more

answer-quiet : (n : Note) → IsAnswer n → ((u : ℕ) → is_step_of u n ≡ false) × ((c : ℕ) → is_failure_of c n ≡ false) × (entry_of n ≡ []) × (is_ask n ≡ false) × ((side : ℕ) → IsOwnNote side n) × ((l : Option ℕ) → loaded_by_note l n ≡ l)
answer-quiet (Made e) is = absurd is
answer-quiet (Asked page kind node) is = absurd is
answer-quiet (Halted v) is = (λ u. refl, λ c. refl, refl, refl, λ side. tt, λ l. refl)
answer-quiet (Ended end) is = (λ u. refl, λ c. refl, refl, refl, λ side. tt, λ l. refl)
answer-quiet (Dead c) is = (λ u. refl, λ d. refl, refl, refl, λ side. tt, λ l. refl)

pub noted-answer : RunLaws → (b : Boot) (s : GuestState) (journal : List Event) (notes : List SidedNote) (n : SidedNote) → Run (start b) journal s → IsNoted s journal notes
    → n.side < length s.processors → IsAnswer n.note → HoldsOf s n.note → IsNoted s journal (notes ++ n ∷ [])
noted-answer r b s journal notes n run old there is holds =
    let q = answer-quiet n.note is in
    record {
      sides = All-append (λ (x : SidedNote). x.side < length s.processors) notes (n ∷ []) old.sides (All-cons (λ (x : SidedNote). x.side < length s.processors) n [] there (All-nil _));
      own = All-append IsOwn notes (n ∷ []) old.own (All-cons IsOwn n [] (q.4 n.side) (All-nil IsOwn));
      made = flat-one notes (n ∷ []) ∙ (λ i. old.made i ++ (q.2 i ++ [])) ∙ append-nil (noted journal);
      asked = filter-append (λ (x : SidedNote). is_ask x.note) notes (n ∷ []) ∙ (λ i. old.asked i ++ none-asked (is_ask n.note) q.3 i) ∙ append-nil (asks s.skips journal);
      holds = All-append (λ (x : SidedNote). HoldsOf s x.note) notes (n ∷ []) old.holds (All-cons (λ (x : SidedNote). HoldsOf s x.note) n [] holds (All-nil _));
      ordered = ordered-more s.around notes n old.ordered (λ j d lt. may-follow s (get_or notes j d).note n (λ c. r.ended b journal s c run) (old.holds j d lt) (quiet-fresh s n q.0 q.1));
      loaded = λ p lt. ap shows_loaded (with_side-more p notes n) ∙ at p (n.side == p) ∙ old.loaded p lt;
    }
  where
    none-asked : (b : Bool) → b ≡ false → cond b (n ∷ []) [] ≡ []
    none-asked true e = absurd (true-false e)
    none-asked false e = refl

    at : (p : ℕ) (b : Bool) → shows_loaded (with_side p notes ++ (if b then n.note ∷ [] else [])) ≡ shows_loaded (with_side p notes)
    at p true = loaded_by-more None (with_side p notes) n.note ∙ (answer-quiet n.note is).5 (shows_loaded (with_side p notes))
    at p false = ap shows_loaded (append-nil (with_side p notes))

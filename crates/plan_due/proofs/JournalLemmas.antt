-- A journal's entries, as the notes of its processors tell them.
use Rattle.std.proofs.Common.{◌≡◌, ℕ, suc, ◌+◌, ◌==◌, ◌&&◌, if◌then◌else◌, cond, Bool, true, false, List, [], ◌∷◌, ◌++◌, refl, sym, ap, ◌∙◌, subst, arith, eq-eqb, inl, inr, ◌⊎◌, Option, Some, None, count_by}
use Rattle.std.proofs.lemmas.List.Sums.{sum_by-append}
use Rattle.std.proofs.lemmas.Bool.{eqb-true}
use Rattle.base_words.specs.declared.ids.ProcId.{ProcId}
use Rattle.base_words.specs.declared.events.Event.{Event}
use Rattle.base_words.specs.declared.events.Event.TheVariants.{Direct, Refill, Emulate, Begin, Ack, Finish, Load, Unload, PacketIn, Discard, Skip, CellFails, End as Ending}
use Rattle.event_journal.specs.Steps.{is_step_of}
use Rattle.shootdown.specs.declared.notes.Note.{Note}
use Rattle.shootdown.specs.declared.notes.Note.TheVariants.{Made, Asked, Halted, Ended, Dead}
use Rattle.shootdown.specs.declared.view.SidedNote.{SidedNote}
use Rattle.shootdown.specs.Notes.{sided, with_side}
use Rattle.guest_core.specs.Noting.{is_noted, entry_of, made_in as entries_in, noted as noted_entries, IsOwn, loaded_by, loaded_by_note}
use Rattle.isolation_law.specs.CellFailure.{is_failure}
use Rattle.plan_due.specs.Failures.{failures_in}
use Rattle.std.specs.Prelude.{flat_map, filter}
use Rattle.plan_due.specs.PlanDue.{is_load_of, HasUnload, IsUnloaded, AreUnloaded}
use Rattle.plan_due.proofs.NoteLists.{Every, tally, tally-append, with_side-append, notes_of}

-- ---- entries that name their processor

-- the note of such an entry, with the processor
abbrev pub noted_by : Event → List SidedNote
noted_by (Direct p v) = sided p.0 (Made (Direct p v)) ∷ []
noted_by (Refill p) = []
noted_by (Emulate p v) = sided p.0 (Made (Emulate p v)) ∷ []
noted_by (Begin page kind node by) = []
noted_by (Ack p page) = []
noted_by (Finish page) = []
noted_by (Load p v) = sided p.0 (Made (Load p v)) ∷ []
noted_by (Unload p) = sided p.0 (Made (Unload p)) ∷ []
noted_by (PacketIn place) = []
noted_by (Discard place) = []
noted_by (Skip place) = []
noted_by (CellFails cell) = []
noted_by (Ending end) = []

abbrev pub noted : List Event → List SidedNote
noted journal = flat_map noted_by journal

abbrev pub names_processor : Event → Bool
names_processor (Direct p v) = true
names_processor (Refill p) = false
names_processor (Emulate p v) = true
names_processor (Begin page kind node by) = false
names_processor (Ack p page) = false
names_processor (Finish page) = false
names_processor (Load p v) = true
names_processor (Unload p) = true
names_processor (PacketIn place) = false
names_processor (Discard place) = false
names_processor (Skip place) = false
names_processor (CellFails cell) = false
names_processor (Ending end) = false

abbrev pub is_made : Note → Bool
is_made (Made e) = names_processor e
is_made (Asked page move node) = false
is_made (Halted v) = false
is_made (Ended end) = false
is_made (Dead cell) = false

abbrev pub made_in : List SidedNote → List SidedNote
made_in notes = filter (λ (n : SidedNote). is_made n.note) notes

-- ---- how many entries are of a kind

-- whether a note is of an entry of a kind
abbrev pub of_entry : (Event → Bool) → Note → Bool
of_entry kind (Made e) = kind e
of_entry kind (Asked page move node) = false
of_entry kind (Halted v) = false
of_entry kind (Ended end) = false
of_entry kind (Dead cell) = false

-- the notes of a processor have all entries of a kind
abbrev IsToldBy : ℕ → (Event → Bool) → Type 0
IsToldBy p kind = (e : Event) → cond (kind e) 1 0 ≡ tally (of_entry kind) (with_side p (noted_by e))

pub count-cons : {A : Type 0} (f : A → Bool) (x : A) (xs : List A) → count_by f (x ∷ xs) ≡ cond (f x) 1 0 + count_by f xs
count-cons f x xs = let e : count_by f (x ∷ xs) ≡ 0 + cond (f x) 1 0 + count_by f xs = sum_by-append (λ y. cond (f y) 1 0) (x ∷ []) xs in omega arith

-- those are the notes of the entries that were noted
own-entry : (side : ℕ) (e : Event) (rest : List SidedNote) → IsOwn (record { side = side; note = Made e }) → cond (names_processor e) (record { side = side; note = Made e } ∷ rest) rest ≡ noted_by e ++ rest
own-entry side (Direct p v) rest own = ap (λ (k : ℕ). sided k (Made (Direct p v)) ∷ rest) own
own-entry side (Refill p) rest own = refl
own-entry side (Emulate p v) rest own = ap (λ (k : ℕ). sided k (Made (Emulate p v)) ∷ rest) own
own-entry side (Begin page kind node by) rest own = refl
own-entry side (Ack p page) rest own = refl
own-entry side (Finish page) rest own = refl
own-entry side (Load p v) rest own = ap (λ (k : ℕ). sided k (Made (Load p v)) ∷ rest) own
own-entry side (Unload p) rest own = ap (λ (k : ℕ). sided k (Made (Unload p)) ∷ rest) own
own-entry side (PacketIn place) rest own = refl
own-entry side (Discard place) rest own = refl
own-entry side (Skip place) rest own = refl
own-entry side (CellFails cell) rest own = refl
own-entry side (Ending end) rest own = refl

own-made : (notes : List SidedNote) → Every IsOwn notes → made_in notes ≡ noted (entries_in notes)
own-made [] own = refl
own-made (n ∷ notes) own = one n.note own.0 (own-made notes own.1)
  where
    one : (note : Note) → IsOwn (record { side = n.side; note = note }) → made_in notes ≡ noted (entries_in notes) → cond (is_made note) (record { side = n.side; note = note } ∷ made_in notes) (made_in notes) ≡ noted (entry_of note ++ entries_in notes)
    one (Made e) own rest = own-entry n.side e (made_in notes) own ∙ ap (λ (l : List SidedNote). noted_by e ++ l) rest
    one (Asked page move node) own rest = rest
    one (Halted v) own rest = rest
    one (Ended end) own rest = rest
    one (Dead cell) own rest = rest

noted-kept : (journal : List Event) → noted (noted_entries journal) ≡ noted journal
noted-kept [] = refl
noted-kept (e ∷ journal) = one e (noted-kept journal)
  where
    one : (e : Event) → noted (noted_entries journal) ≡ noted journal → noted (cond (is_noted e) (e ∷ noted_entries journal) (noted_entries journal)) ≡ noted_by e ++ noted journal
    one (Direct p v) rest = ap (λ (l : List SidedNote). noted_by (Direct p v) ++ l) rest
    one (Refill p) rest = rest
    one (Emulate p v) rest = ap (λ (l : List SidedNote). noted_by (Emulate p v) ++ l) rest
    one (Begin page kind node by) rest = rest
    one (Ack p page) rest = rest
    one (Finish page) rest = rest
    one (Load p v) rest = ap (λ (l : List SidedNote). noted_by (Load p v) ++ l) rest
    one (Unload p) rest = ap (λ (l : List SidedNote). noted_by (Unload p) ++ l) rest
    one (PacketIn place) rest = rest
    one (Discard place) rest = rest
    one (Skip place) rest = rest
    one (CellFails cell) rest = rest
    one (Ending end) rest = rest

pub made-noted : (journal : List Event) (notes : List SidedNote) → Every IsOwn notes → entries_in notes ≡ noted_entries journal → made_in notes ≡ noted journal
made-noted journal notes own made = own-made notes own ∙ ap noted made ∙ noted-kept journal

-- ---- failures, by whatever processor

failure-told : (c : ℕ) (notes : List SidedNote) → failures_in c (entries_in notes) ≡ tally (of_entry (is_failure c)) (notes_of notes)
failure-told c [] = refl
failure-told c (n ∷ notes) = one n.note (failure-told c notes)
  where
    zero-more : (k : ℕ) → k ≡ 0 + k
    zero-more k = omega arith

    one : (note : Note) → failures_in c (entries_in notes) ≡ tally (of_entry (is_failure c)) (notes_of notes) → failures_in c (entry_of note ++ entries_in notes) ≡ cond (of_entry (is_failure c) note) 1 0 + tally (of_entry (is_failure c)) (notes_of notes)
    one (Made e) rest = count-cons (is_failure c) e (entries_in notes) ∙ ap (λ (k : ℕ). cond (is_failure c e) 1 0 + k) rest
    one (Asked page move node) rest = rest ∙ zero-more _
    one (Halted v) rest = rest ∙ zero-more _
    one (Ended end) rest = rest ∙ zero-more _
    one (Dead cell) rest = rest ∙ zero-more _

failures-kept : (c : ℕ) (journal : List Event) → failures_in c (noted_entries journal) ≡ failures_in c journal
failures-kept c [] = refl
failures-kept c (e ∷ journal) = one e (failures-kept c journal)
  where
    both : (e : Event) → failures_in c (noted_entries journal) ≡ failures_in c journal → failures_in c (e ∷ noted_entries journal) ≡ failures_in c (e ∷ journal)
    both e rest = count-cons (is_failure c) e (noted_entries journal) ∙ ap (λ (k : ℕ). cond (is_failure c e) 1 0 + k) rest ∙ sym (count-cons (is_failure c) e journal)

    none : (e : Event) → is_failure c e ≡ false → failures_in c (noted_entries journal) ≡ failures_in c journal → failures_in c (noted_entries journal) ≡ failures_in c (e ∷ journal)
    none e is rest = rest ∙ (let m : (k : ℕ) → k ≡ 0 + k = λ k. omega arith in m (failures_in c journal)) ∙ ap (λ (b : Bool). cond b 1 0 + failures_in c journal) (sym is) ∙ sym (count-cons (is_failure c) e journal)

    one : (e : Event) → failures_in c (noted_entries journal) ≡ failures_in c journal → failures_in c (cond (is_noted e) (e ∷ noted_entries journal) (noted_entries journal)) ≡ failures_in c (e ∷ journal)
    one (Direct p v) rest = both (Direct p v) rest
    one (Refill p) rest = none (Refill p) refl rest
    one (Emulate p v) rest = both (Emulate p v) rest
    one (Begin page kind node by) rest = none (Begin page kind node by) refl rest
    one (Ack p page) rest = none (Ack p page) refl rest
    one (Finish page) rest = none (Finish page) refl rest
    one (Load p v) rest = both (Load p v) rest
    one (Unload p) rest = both (Unload p) rest
    one (PacketIn place) rest = none (PacketIn place) refl rest
    one (Discard place) rest = none (Discard place) refl rest
    one (Skip place) rest = none (Skip place) refl rest
    one (CellFails cell) rest = both (CellFails cell) rest
    one (Ending end) rest = none (Ending end) refl rest

pub failures-told : (c : ℕ) (journal : List Event) (notes : List SidedNote) → entries_in notes ≡ noted_entries journal → failures_in c journal ≡ tally (of_entry (is_failure c)) (notes_of notes)
failures-told c journal notes made = sym (failures-kept c journal) ∙ ap (failures_in c) (sym made) ∙ failure-told c notes

count-noted : (p : ℕ) (kind : Event → Bool) → IsToldBy p kind → (journal : List Event) → count_by kind journal ≡ tally (of_entry kind) (with_side p (noted journal))
count-noted p kind told [] = refl
count-noted p kind told (e ∷ journal) =
    let r = count-noted p kind told journal in
    let one = told e in
    let first = count-cons kind e journal in
    let both = ap (tally (of_entry kind)) (with_side-append p (noted_by e) (noted journal)) ∙ tally-append (of_entry kind) (with_side p (noted_by e)) (with_side p (noted journal)) in
    omega arith

no-count : (b : Bool) → cond b (suc 0) 0 ≡ 0 → b ≡ false
no-count true e = absurd (omega (arith, e))
no-count false e = refl

-- an entry that names no processor is of no kind that they tell
unnamed : (p : ℕ) (kind : Event → Bool) → IsToldBy p kind → (e : Event) → names_processor e ≡ false → kind e ≡ false
unnamed p kind told (Direct q v) is = absurd cc
unnamed p kind told (Refill q) is = no-count (kind (Refill q)) (told (Refill q))
unnamed p kind told (Emulate q v) is = absurd cc
unnamed p kind told (Begin page move node by) is = no-count (kind (Begin page move node by)) (told (Begin page move node by))
unnamed p kind told (Ack q page) is = no-count (kind (Ack q page)) (told (Ack q page))
unnamed p kind told (Finish page) is = no-count (kind (Finish page)) (told (Finish page))
unnamed p kind told (Load q v) is = absurd cc
unnamed p kind told (Unload q) is = absurd cc
unnamed p kind told (PacketIn place) is = no-count (kind (PacketIn place)) (told (PacketIn place))
unnamed p kind told (Discard place) is = no-count (kind (Discard place)) (told (Discard place))
unnamed p kind told (Skip place) is = no-count (kind (Skip place)) (told (Skip place))
unnamed p kind told (CellFails cell) is = no-count (kind (CellFails cell)) (told (CellFails cell))
unnamed p kind told (Ending end) is = no-count (kind (Ending end)) (told (Ending end))

-- the notes that aren't of entries count for nothing
none-more : (n : ℕ) → n ≡ 0 + n
none-more n = omega arith

skipped : (b : Bool) (kind : Event → Bool) (note : Note) (made notes : List Note) → tally (of_entry kind) made ≡ tally (of_entry kind) notes → of_entry kind note ≡ false → tally (of_entry kind) made ≡ tally (of_entry kind) (if b then note ∷ notes else notes)
skipped false kind note made notes rest other = rest
skipped true kind note made notes rest other = rest ∙ none-more (tally (of_entry kind) notes) ∙ (λ k. cond (sym other k) 1 0 + tally (of_entry kind) notes)

kept : (b : Bool) (kind : Event → Bool) (note : Note) (made notes : List Note) → tally (of_entry kind) made ≡ tally (of_entry kind) notes → tally (of_entry kind) (if b then note ∷ made else made) ≡ tally (of_entry kind) (if b then note ∷ notes else notes)
kept false kind note made notes rest = rest
kept true kind note made notes rest = ap (λ k. cond (of_entry kind note) 1 0 + k) rest

tally-made : (p : ℕ) (kind : Event → Bool) (notes : List SidedNote) → IsToldBy p kind → tally (of_entry kind) (with_side p (made_in notes)) ≡ tally (of_entry kind) (with_side p notes)
tally-made p kind [] told = refl
tally-made p kind (n ∷ notes) told = one n.note (tally-made p kind notes told)
  where
    Rest : Type 0
    Rest = tally (of_entry kind) (with_side p (made_in notes)) ≡ tally (of_entry kind) (with_side p notes)

    one : (note : Note) → Rest → tally (of_entry kind) (with_side p (cond (is_made note) (record { side = n.side; note = note } ∷ made_in notes) (made_in notes))) ≡ tally (of_entry kind) (if n.side == p then note ∷ with_side p notes else with_side p notes)
    one (Made e) rest = by (names_processor e) refl
      where
        by : (b : Bool) → names_processor e ≡ b → tally (of_entry kind) (with_side p (cond b (record { side = n.side; note = Made e } ∷ made_in notes) (made_in notes))) ≡ tally (of_entry kind) (if n.side == p then Made e ∷ with_side p notes else with_side p notes)
        by true is = kept (n.side == p) kind (Made e) (with_side p (made_in notes)) (with_side p notes) rest
        by false is = skipped (n.side == p) kind (Made e) (with_side p (made_in notes)) (with_side p notes) rest (unnamed p kind told e is)
    one (Asked page move node) rest = skipped (n.side == p) kind (Asked page move node) (with_side p (made_in notes)) (with_side p notes) rest refl
    one (Halted v) rest = skipped (n.side == p) kind (Halted v) (with_side p (made_in notes)) (with_side p notes) rest refl
    one (Ended end) rest = skipped (n.side == p) kind (Ended end) (with_side p (made_in notes)) (with_side p notes) rest refl
    one (Dead cell) rest = skipped (n.side == p) kind (Dead cell) (with_side p (made_in notes)) (with_side p notes) rest refl

pub count-told : (p : ℕ) (kind : Event → Bool) (journal : List Event) (notes : List SidedNote) → IsToldBy p kind → made_in notes ≡ noted journal → count_by kind journal ≡ tally (of_entry kind) (with_side p notes)
count-told p kind journal notes told made = count-noted p kind told journal ∙ ap (λ ns. tally (of_entry kind) (with_side p ns)) (sym made) ∙ tally-made p kind notes told

plus-none : (n : ℕ) → n ≡ n + 0
plus-none n = omega arith

sided-by : (b c : Bool) (note : Note) (kind : Event → Bool) → of_entry kind note ≡ (b && c) → cond (b && c) 1 0 ≡ tally (of_entry kind) (if b then note ∷ [] else [])
sided-by true c note kind is = ap (λ k. cond k 1 0) (sym is) ∙ plus-none (cond (of_entry kind note) 1 0)
sided-by false c note kind is = refl

own-side : (p q : ℕ) (u v : ℕ) (note : Note) (kind : Event → Bool) → of_entry kind note ≡ ((q == p) && (u == v)) → cond ((q == p) && (u == v)) 1 0 ≡ tally (of_entry kind) (with_side p (sided q note ∷ []))
own-side p q u v note kind is = sided-by (q == p) (u == v) note kind is

pub steps-told : (p v : ℕ) → IsToldBy p (is_step_of p v)
steps-told p v (Direct q u) = own-side p q.0 u.0 v (Made (Direct q u)) (is_step_of p v) refl
steps-told p v (Refill q) = refl
steps-told p v (Emulate q u) = own-side p q.0 u.0 v (Made (Emulate q u)) (is_step_of p v) refl
steps-told p v (Begin page move node by) = refl
steps-told p v (Ack q page) = refl
steps-told p v (Finish page) = refl
steps-told p v (Load q u) = elim (q.0 == p) as (λ b. 0 ≡ tally (of_entry (is_step_of p v)) (if b then Made (Load q u) ∷ [] else [])) [ true ↦ refl | false ↦ refl ]
steps-told p v (Unload q) = elim (q.0 == p) as (λ b. 0 ≡ tally (of_entry (is_step_of p v)) (if b then Made (Unload q) ∷ [] else [])) [ true ↦ refl | false ↦ refl ]
steps-told p v (PacketIn place) = refl
steps-told p v (Discard place) = refl
steps-told p v (Skip place) = refl
steps-told p v (CellFails cell) = refl
steps-told p v (Ending end) = refl

pub loads-told : (p v : ℕ) → IsToldBy p (is_load_of p v)
loads-told p v (Direct q u) = elim (q.0 == p) as (λ b. 0 ≡ tally (of_entry (is_load_of p v)) (if b then Made (Direct q u) ∷ [] else [])) [ true ↦ refl | false ↦ refl ]
loads-told p v (Refill q) = refl
loads-told p v (Emulate q u) = elim (q.0 == p) as (λ b. 0 ≡ tally (of_entry (is_load_of p v)) (if b then Made (Emulate q u) ∷ [] else [])) [ true ↦ refl | false ↦ refl ]
loads-told p v (Begin page move node by) = refl
loads-told p v (Ack q page) = refl
loads-told p v (Finish page) = refl
loads-told p v (Load q u) = own-side p q.0 u.0 v (Made (Load q u)) (is_load_of p v) refl
loads-told p v (Unload q) = elim (q.0 == p) as (λ b. 0 ≡ tally (of_entry (is_load_of p v)) (if b then Made (Unload q) ∷ [] else [])) [ true ↦ refl | false ↦ refl ]
loads-told p v (PacketIn place) = refl
loads-told p v (Discard place) = refl
loads-told p v (Skip place) = refl
loads-told p v (CellFails cell) = refl
loads-told p v (Ending end) = refl

-- ---- what was loaded was unloaded

pub loaded_by-append : (l : Option ℕ) (xs ys : List Note) → loaded_by l (xs ++ ys) ≡ loaded_by (loaded_by l xs) ys
loaded_by-append l [] ys = refl
loaded_by-append l (x ∷ xs) ys = loaded_by-append (loaded_by_note l x) xs ys

loaded-skipped : (b : Bool) (l : Option ℕ) (note : Note) (made notes : List Note) → ((k : Option ℕ) → loaded_by k made ≡ loaded_by k notes) → loaded_by_note l note ≡ l → loaded_by l made ≡ loaded_by l (if b then note ∷ notes else notes)
loaded-skipped false l note made notes rest same = rest l
loaded-skipped true l note made notes rest same = rest l ∙ ap (λ k. loaded_by k notes) (sym same)

loaded-kept : (b : Bool) (l : Option ℕ) (note : Note) (made notes : List Note) → ((k : Option ℕ) → loaded_by k made ≡ loaded_by k notes) → loaded_by l (if b then note ∷ made else made) ≡ loaded_by l (if b then note ∷ notes else notes)
loaded-kept false l note made notes rest = rest l
loaded-kept true l note made notes rest = rest (loaded_by_note l note)

unloaded-by : (l : Option ℕ) (e : Event) → names_processor e ≡ false → loaded_by_note l (Made e) ≡ l
unloaded-by l (Direct q v) is = absurd cc
unloaded-by l (Refill q) is = refl
unloaded-by l (Emulate q v) is = absurd cc
unloaded-by l (Begin page move node by) is = refl
unloaded-by l (Ack q page) is = refl
unloaded-by l (Finish page) is = refl
unloaded-by l (Load q v) is = absurd cc
unloaded-by l (Unload q) is = absurd cc
unloaded-by l (PacketIn place) is = refl
unloaded-by l (Discard place) is = refl
unloaded-by l (Skip place) is = refl
unloaded-by l (CellFails cell) is = refl
unloaded-by l (Ending end) is = refl

loaded-made : (p : ℕ) (notes : List SidedNote) (l : Option ℕ) → loaded_by l (with_side p (made_in notes)) ≡ loaded_by l (with_side p notes)
loaded-made p [] l = refl
loaded-made p (n ∷ notes) l = one n.note (loaded-made p notes)
  where
    Rest : Type 0
    Rest = (k : Option ℕ) → loaded_by k (with_side p (made_in notes)) ≡ loaded_by k (with_side p notes)

    one : (note : Note) → Rest → loaded_by l (with_side p (cond (is_made note) (record { side = n.side; note = note } ∷ made_in notes) (made_in notes))) ≡ loaded_by l (if n.side == p then note ∷ with_side p notes else with_side p notes)
    one (Made e) rest = by (names_processor e) refl
      where
        by : (b : Bool) → names_processor e ≡ b → loaded_by l (with_side p (cond b (record { side = n.side; note = Made e } ∷ made_in notes) (made_in notes))) ≡ loaded_by l (if n.side == p then Made e ∷ with_side p notes else with_side p notes)
        by true is = loaded-kept (n.side == p) l (Made e) (with_side p (made_in notes)) (with_side p notes) rest
        by false is = loaded-skipped (n.side == p) l (Made e) (with_side p (made_in notes)) (with_side p notes) rest (unloaded-by l e is)
    one (Asked page move node) rest = loaded-skipped (n.side == p) l (Asked page move node) (with_side p (made_in notes)) (with_side p notes) rest refl
    one (Halted v) rest = loaded-skipped (n.side == p) l (Halted v) (with_side p (made_in notes)) (with_side p notes) rest refl
    one (Ended end) rest = loaded-skipped (n.side == p) l (Ended end) (with_side p (made_in notes)) (with_side p notes) rest refl
    one (Dead cell) rest = loaded-skipped (n.side == p) l (Dead cell) (with_side p (made_in notes)) (with_side p notes) rest refl

-- where nothing is loaded after a load, there was an unload
unloads : (q : ProcId) (u : ℕ) (journal : List Event) → loaded_by (Some u) (with_side q.0 (noted journal)) ≡ None → HasUnload q journal
unloads q u [] e = absurd cc
unloads q u (Direct r w ∷ journal) e = inr (elim (r.0 == q.0) as (λ b. loaded_by (Some u) (if b then Made (Direct r w) ∷ with_side q.0 (noted journal) else with_side q.0 (noted journal)) ≡ None → HasUnload q journal) [ true ↦ (λ k. unloads q u journal k) | false ↦ (λ k. unloads q u journal k) ] e)
unloads q u (Refill r ∷ journal) e = inr (unloads q u journal e)
unloads q u (Emulate r w ∷ journal) e = inr (elim (r.0 == q.0) as (λ b. loaded_by (Some u) (if b then Made (Emulate r w) ∷ with_side q.0 (noted journal) else with_side q.0 (noted journal)) ≡ None → HasUnload q journal) [ true ↦ (λ k. unloads q u journal k) | false ↦ (λ k. unloads q u journal k) ] e)
unloads q u (Begin page move node by ∷ journal) e = inr (unloads q u journal e)
unloads q u (Ack r page ∷ journal) e = inr (unloads q u journal e)
unloads q u (Finish page ∷ journal) e = inr (unloads q u journal e)
unloads q u (Load r w ∷ journal) e = inr (elim (r.0 == q.0) as (λ b. loaded_by (Some u) (if b then Made (Load r w) ∷ with_side q.0 (noted journal) else with_side q.0 (noted journal)) ≡ None → HasUnload q journal) [ true ↦ (λ k. unloads q w.0 journal k) | false ↦ (λ k. unloads q u journal k) ] e)
unloads q u (Unload r ∷ journal) e = same (r.0 == q.0) refl e (unloads q u journal)
  where
    same : (b : Bool) → (r.0 == q.0) ≡ b → loaded_by (Some u) (if b then Made (Unload r) ∷ with_side q.0 (noted journal) else with_side q.0 (noted journal)) ≡ None → (loaded_by (Some u) (with_side q.0 (noted journal)) ≡ None → HasUnload q journal) → (Unload r ≡ Unload q) ⊎ HasUnload q journal
    same true is k rest = inl (ap (λ (n : ℕ). Unload (record { 0 = n })) (eqb-true r.0 q.0 is))
    same false is k rest = inr (rest k)
unloads q u (PacketIn place ∷ journal) e = inr (unloads q u journal e)
unloads q u (Discard place ∷ journal) e = inr (unloads q u journal e)
unloads q u (Skip place ∷ journal) e = inr (unloads q u journal e)
unloads q u (CellFails cell ∷ journal) e = inr (unloads q u journal e)
unloads q u (Ending end ∷ journal) e = inr (unloads q u journal e)

-- the notes of each processor, from somewhere on, show nothing loaded at their end
abbrev EndsFree : List Event → Type 0
EndsFree journal = (q : ℕ) → (l : Option ℕ) × (loaded_by l (with_side q (noted journal)) ≡ None)

free-tail : (e : Event) (journal : List Event) → EndsFree (e ∷ journal) → EndsFree journal
free-tail e journal free q = (
  loaded_by (free q).0 (with_side q (noted_by e)),
  sym (ap (loaded_by (free q).0) (with_side-append q (noted_by e) (noted journal)) ∙ loaded_by-append (free q).0 (with_side q (noted_by e)) (with_side q (noted journal))) ∙ (free q).1,
)

all-unloaded : (journal : List Event) → EndsFree journal → AreUnloaded journal
all-unloaded [] free = tt
all-unloaded (e ∷ journal) free = (one e free, all-unloaded journal (free-tail e journal free))
  where
    one : (e : Event) → EndsFree (e ∷ journal) → IsUnloaded e journal
    one (Direct q u) free = tt
    one (Refill q) free = tt
    one (Emulate q u) free = tt
    one (Begin page move node by) free = tt
    one (Ack q page) free = tt
    one (Finish page) free = tt
    one (Load q u) free = unloads q u.0 journal (subst (λ b. loaded_by (free q.0).0 (if b then Made (Load q u) ∷ with_side q.0 (noted journal) else with_side q.0 (noted journal)) ≡ None) (eq-eqb q.0 q.0 refl) (free q.0).1)
    one (Unload q) free = tt
    one (PacketIn place) free = tt
    one (Discard place) free = tt
    one (Skip place) free = tt
    one (CellFails cell) free = tt
    one (Ending end) free = tt

pub unloaded : (journal : List Event) (notes : List SidedNote) → made_in notes ≡ noted journal → ((q : ℕ) → loaded_by None (with_side q notes) ≡ None) → AreUnloaded journal
unloaded journal notes made free = all-unloaded journal (λ q. (None, ap (λ ns. loaded_by None (with_side q ns)) (sym made) ∙ loaded-made q notes None ∙ free q))

-- What the notes of one item tell, of a run, an ask and a failure.
use Rattle.std.proofs.Common.{◌≡◌, ℕ, suc, ◌≤◌, ◌==◌, ◌&&◌, if◌then◌else◌, cond, Bool, true, false, List, [], ◌∷◌, ◌++◌, map, refl, sym, ap, ◌∙◌, subst, arith, inl, inr, ⊎_elim, Option, None}
use Rattle.base_words.specs.declared.ids.CellId.{CellId}
use Rattle.base_words.specs.declared.ids.ProcId.{ProcId}
use Rattle.base_words.specs.declared.ids.VcpuId.{VcpuId}
use Rattle.base_words.specs.declared.events.End.{End}
use Rattle.base_words.specs.declared.events.End.TheVariants.{CellFailed}
use Rattle.base_words.specs.declared.events.Event.TheVariants.{CellFails}
use Rattle.event_journal.specs.Steps.{is_step_of}
use Rattle.shootdown.specs.declared.notes.Note.{Note}
use Rattle.shootdown.specs.declared.notes.Note.TheVariants.{Made, Ended, Dead}
use Rattle.shootdown.specs.declared.view.SidedNote.{SidedNote}
use Rattle.shootdown.specs.Notes.{sided, with_side}
use Rattle.isolation_law.specs.Parts.{Wish}
use Rattle.isolation_law.specs.CellFailure.{is_failure}
use Rattle.guest_core.specs.Asks.{note_of, wish_in, wishes_in}
use Rattle.guest_core.specs.Noting.{loaded_by, loaded_by_note}
use Rattle.guest_core.specs.declared.records.FailureRecord.{FailureRecord}
use Rattle.plan_due.specs.Stops as stop
use Rattle.plan_due.specs.Stops.{Stop, told_of_stop}
use Rattle.guest_lock.specs.Told.{IsStep}
use Rattle.guest_core.specs.declared.answers.Fate.{Fate}
use Rattle.guest_core.specs.declared.answers.Fate.TheVariants.{Ends, Stays, WasEnded, WasDead}
use Rattle.guest_lock.specs.Fates.{IsToldFate, AreToldFates}
use Rattle.plan_due.specs.Planned.{Work, Runs, Asks, Fails, Planned, runs_of, fails_of, is_run_of, wish_of}
use Rattle.plan_due.specs.PlanDue.{is_load_of}
use Rattle.plan_due.specs.Slices.{Machine, IsToldFailure, IsToldWork, IsTold}
use Rattle.plan_due.specs.declared.outcome.Outcome.{Outcome}
use Rattle.plan_due.specs.declared.outcome.Outcome.TheVariants.{Slice, Asked, Failure}
use Rattle.plan_due.proofs.NoteLists.{Every, tally, tally-none, with_side-told, every-side}
use Rattle.plan_due.proofs.JournalLemmas.{of_entry}
use Rattle.plan_due.proofs.SliceLemmas.{slice-count, slice-loads, slice-free, slice-every}

-- ---- the fates of guests

every-append : {A : Type 0} (P : A → Type 0) (xs ys : List A) → Every P xs → Every P ys → Every P (xs ++ ys)
every-append P [] ys a b = b
every-append P (x ∷ xs) ys a b = (a.0, every-append P xs ys a.1 b)

every-sided : (P : Note → Type 0) (g : ℕ) (told : List Note) → Every P told → Every (λ (n : SidedNote). P n.note) (map (sided g) told)
every-sided P g [] e = tt
every-sided P g (n ∷ told) e = (e.0, every-sided P g told e.1)

-- what holds of each note that a fate can have
pub fate-every : (P : Note → Type 0) (c : CellId) (fate : Fate) (told : List Note) → P (Made (CellFails c)) → P (Dead c) → ((end : End) → P (Ended end)) → IsToldFate c fate told → Every P told
fate-every P c Ends told made dead ended is = subst (Every P) (sym is) (made, (ended (CellFailed c), tt))
fate-every P c Stays told made dead ended is = subst (Every P) (sym is) (made, (dead, tt))
fate-every P c WasEnded told made dead ended is = subst (Every P) (sym is.2) (made, (ended is.0, tt))
fate-every P c WasDead told made dead ended is = ⊎_elim (λ (e : told ≡ Dead c ∷ []). subst (Every P) (sym e) (dead, tt)) (λ (e : told ≡ Ended (CellFailed c) ∷ []). subst (Every P) (sym e) (ended (CellFailed c), tt)) is

pub fates-every : (P : Note → Type 0) (c : CellId) (k : ℕ) (fates : List Fate) (notes : List SidedNote) → P (Made (CellFails c)) → P (Dead c) → ((end : End) → P (Ended end)) → AreToldFates c k fates notes → Every (λ (n : SidedNote). P n.note) notes
fates-every P c k [] notes made dead ended are = subst (Every (λ (n : SidedNote). P n.note)) (sym are) tt
fates-every P c k (fate ∷ fates) notes made dead ended are = subst (Every (λ (n : SidedNote). P n.note)) (sym are.3)
    (every-append (λ (n : SidedNote). P n.note) (map (sided k) are.0) are.1 (every-sided P k are.0 (fate-every P c fate are.0 made dead ended are.2)) (fates-every P c (suc k) fates are.1 made dead ended are.4))

-- ---- counts

none-of : (f : Note → Bool) (b : Bool) (told : List Note) → tally f told ≡ 0 → tally f (if b then told else []) ≡ 0
none-of f true told e = e
none-of f false told e = refl

run-side : (f : Note → Bool) (g h : ℕ) (told : List Note) (notes : List SidedNote) → notes ≡ map (sided h) told → tally f (with_side g notes) ≡ tally f (if h == g then told else [])
run-side f g h told notes e = ap (λ l. tally f (with_side g l)) e ∙ ap (tally f) (with_side-told g h told)

failure-none : (m : Machine) (f : Note → Bool) (g item c : ℕ) (failure : FailureRecord) (notes : List SidedNote) → IsToldFailure m item c failure notes → ((d : CellId) → f (Made (CellFails d)) ≡ false) → ((d : CellId) → f (Dead d) ≡ false) → ((end : End) → f (Ended end) ≡ false) → tally f (with_side g notes) ≡ 0
failure-none m f g item c failure notes is made dead ended =
    tally-none f (with_side g notes) (every-side (λ n. f n ≡ false) g notes (fates-every (λ n. f n ≡ false) failure.cell 0 is.fates notes (made failure.cell) (dead failure.cell) ended is.are))

abbrev pub steps_each : ℕ → ℕ → ℕ → Planned → Outcome → ℕ
steps_each p g v item (Slice slice) = cond (is_run_of p g v item) slice.steps 0
steps_each p g v item Asked = 0
steps_each p g v item (Failure failure) = 0

no-run : (b : Bool) (n : ℕ) → cond (b && false) n 0 ≡ 0
no-run true n = refl
no-run false n = refl

run-steps : (b here c : Bool) (f : Note → Bool) (told : List Note) (n : ℕ) → tally f told ≡ cond (b && c) n 0 → tally f (if here then told else []) ≡ cond (b && (here && c)) n 0
run-steps b true c f told n e = e
run-steps b false c f told n e = sym (no-run b n)

pub item-steps : (m : Machine) (p g v : ℕ) (item : Planned) (outcome : Outcome) (told : List SidedNote) → IsTold m item outcome told → tally (of_entry (is_step_of p v)) (with_side g told) ≡ steps_each p g v item outcome
item-steps m p g v item outcome told is = by item.work refl outcome is
  where
    f : Note → Bool
    f = of_entry (is_step_of p v)

    by : (work : Work) → item.work ≡ work → (outcome : Outcome) → IsToldWork m item work outcome told → tally f (with_side g told) ≡ steps_each p g v item outcome
    by (Runs h u n) e (Slice slice) is =
        run-side f g h is.0 told is.2
        ∙ run-steps (item.processor == p) (h == g) (u == v) f is.0 slice.steps (slice-count (is_step_of p v) ((item.processor == p) && (u == v)) _ _ _ _ _ slice is.0 is.1 refl refl refl refl)
        ∙ ap (λ (w : Work). cond ((item.processor == p) && runs_of g v w) slice.steps 0) (sym e)
    by (Runs h u n) e Asked is = absurd is
    by (Runs h u n) e (Failure failure) is = absurd is
    by (Asks h wish) e (Slice slice) is = absurd is
    by (Asks h wish) e Asked is = run-side f g h (note_of wish ∷ []) told is ∙ none-of f (h == g) (note_of wish ∷ []) refl
    by (Asks h wish) e (Failure failure) is = absurd is
    by (Fails c) e (Slice slice) is = absurd is
    by (Fails c) e Asked is = absurd is
    by (Fails c) e (Failure failure) is = failure-none m f g item.item c failure told is (λ d. refl) (λ d. refl) (λ end. refl)

run-loads : (b here c : Bool) (f : Note → Bool) (told : List Note) → tally f told ≤ cond (b && c) 1 0 → tally f (if here then told else []) ≤ cond (here && c) 1 0
run-loads true true c f told l = l
run-loads false true c f told l = omega (arith, l)
run-loads b false c f told l = omega arith

pub item-loads : (m : Machine) (p g v : ℕ) (item : Planned) (outcome : Outcome) (told : List SidedNote) → IsTold m item outcome told → tally (of_entry (is_load_of p v)) (with_side g told) ≤ cond (runs_of g v item.work) 1 0
item-loads m p g v item outcome told is = by item.work refl outcome is
  where
    f : Note → Bool
    f = of_entry (is_load_of p v)

    none : (n : ℕ) (w : Work) → n ≡ 0 → n ≤ cond (runs_of g v w) 1 0
    none n w e = omega (arith, e)

    by : (work : Work) → item.work ≡ work → (outcome : Outcome) → IsToldWork m item work outcome told → tally f (with_side g told) ≤ cond (runs_of g v item.work) 1 0
    by (Runs h u n) e (Slice slice) is =
        let all = run-side f g h is.0 told is.2 in
        let few = run-loads (item.processor == p) (h == g) (u == v) f is.0 (slice-loads p v _ _ _ _ _ slice is.0 is.1) in
        let work = ap (λ (w : Work). cond (runs_of g v w) (suc 0) 0) e in
        omega (arith, all, few, work)
    by (Runs h u n) e Asked is = absurd is
    by (Runs h u n) e (Failure failure) is = absurd is
    by (Asks h wish) e (Slice slice) is = absurd is
    by (Asks h wish) e Asked is = none (tally f (with_side g told)) item.work (run-side f g h (note_of wish ∷ []) told is ∙ none-of f (h == g) (note_of wish ∷ []) refl)
    by (Asks h wish) e (Failure failure) is = absurd is
    by (Fails c) e (Slice slice) is = absurd is
    by (Fails c) e Asked is = absurd is
    by (Fails c) e (Failure failure) is = none (tally f (with_side g told)) item.work (failure-none m f g item.item c failure told is (λ d. refl) (λ d. refl) (λ end. refl))

-- ---- what was asked for

step-unasked : (p : ProcId) (v : VcpuId) (n : Note) → IsStep p v n → wish_in n ≡ []
step-unasked p v n (inl e) = ap wish_in e
step-unasked p v n (inr e) = ap wish_in e

stop-unasked : (v : VcpuId) (s : Stop) → Every (λ n. wish_in n ≡ []) (told_of_stop v s)
stop-unasked v stop.Paused = tt
stop-unasked v stop.VcpuHalted = (refl, tt)
stop-unasked v (stop.GuestEnded end) = (refl, tt)
stop-unasked v (stop.CellDead cell) = (refl, tt)

none-asked : (notes : List Note) → Every (λ n. wish_in n ≡ []) notes → wishes_in notes ≡ []
none-asked [] e = refl
none-asked (n ∷ notes) e = (λ i. e.0 i ++ none-asked notes e.1 i)

pub item-wishes : (m : Machine) (g : ℕ) (item : Planned) (outcome : Outcome) (told : List SidedNote) → IsTold m item outcome told → wishes_in (with_side g told) ≡ wish_of g item.work
item-wishes m g item outcome told is = by item.work refl outcome is
  where
    none : (b : Bool) (notes : List Note) → wishes_in notes ≡ [] → wishes_in (if b then notes else []) ≡ []
    none true notes e = e
    none false notes e = refl

    one : (b : Bool) (wish : Wish) → wishes_in (if b then note_of wish ∷ [] else []) ≡ (if b then wish ∷ [] else [])
    one true wish = refl
    one false wish = refl

    sided-wishes : (h : ℕ) (notes : List Note) → told ≡ map (sided h) notes → wishes_in (with_side g told) ≡ wishes_in (if h == g then notes else [])
    sided-wishes h notes e = ap (λ l. wishes_in (with_side g l)) e ∙ ap wishes_in (with_side-told g h notes)

    by : (work : Work) → item.work ≡ work → (outcome : Outcome) → IsToldWork m item work outcome told → wishes_in (with_side g told) ≡ wish_of g item.work
    by (Runs h u n) e (Slice slice) is =
        sided-wishes h is.0 is.2
        ∙ none (h == g) is.0 (none-asked is.0 (slice-every (λ x. wish_in x ≡ []) _ _ _ _ _ slice is.0 is.1 (λ x s. step-unasked _ _ x s) refl refl (λ s. stop-unasked _ s)))
        ∙ ap (wish_of g) (sym e)
    by (Runs h u n) e Asked is = absurd is
    by (Runs h u n) e (Failure failure) is = absurd is
    by (Asks h asked) e (Slice slice) is = absurd is
    by (Asks h asked) e Asked is = sided-wishes h (note_of asked ∷ []) is ∙ one (h == g) asked ∙ ap (wish_of g) (sym e)
    by (Asks h asked) e (Failure failure) is = absurd is
    by (Fails c) e (Slice slice) is = absurd is
    by (Fails c) e Asked is = absurd is
    by (Fails c) e (Failure failure) is =
        none-asked (with_side g told) (every-side (λ n. wish_in n ≡ []) g told (fates-every (λ n. wish_in n ≡ []) failure.cell 0 is.fates told refl refl (λ end. refl) is.are))
        ∙ ap (wish_of g) (sym e)

-- ---- loads

same-loaded : (notes : List Note) → Every (λ n. (l : Option ℕ) → loaded_by_note l n ≡ l) notes → (l : Option ℕ) → loaded_by l notes ≡ l
same-loaded [] e l = refl
same-loaded (n ∷ notes) e l = ap (λ k. loaded_by k notes) (e.0 l) ∙ same-loaded notes e.1 l

pub item-free : (m : Machine) (g : ℕ) (item : Planned) (outcome : Outcome) (told : List SidedNote) → IsTold m item outcome told → loaded_by None (with_side g told) ≡ None
item-free m g item outcome told is = by item.work outcome is
  where
    either : (b : Bool) (notes : List Note) → loaded_by None notes ≡ None → loaded_by None (if b then notes else []) ≡ None
    either true notes e = e
    either false notes e = refl

    by : (work : Work) (outcome : Outcome) → IsToldWork m item work outcome told → loaded_by None (with_side g told) ≡ None
    by (Runs h u n) (Slice slice) is = ap (λ l. loaded_by None (with_side g l)) is.2 ∙ ap (loaded_by None) (with_side-told g h is.0) ∙ either (h == g) is.0 (slice-free _ _ _ _ _ slice is.0 is.1)
    by (Runs h u n) Asked is = absurd is
    by (Runs h u n) (Failure failure) is = absurd is
    by (Asks h wish) (Slice slice) is = absurd is
    by (Asks h wish) Asked is = ap (λ l. loaded_by None (with_side g l)) is ∙ ap (loaded_by None) (with_side-told g h (note_of wish ∷ [])) ∙ either (h == g) (note_of wish ∷ []) refl
    by (Asks h wish) (Failure failure) is = absurd is
    by (Fails c) (Slice slice) is = absurd is
    by (Fails c) Asked is = absurd is
    by (Fails c) (Failure failure) is = same-loaded (with_side g told) (every-side (λ n. (l : Option ℕ) → loaded_by_note l n ≡ l) g told (fates-every (λ n. (l : Option ℕ) → loaded_by_note l n ≡ l) failure.cell 0 is.fates told (λ l. refl) (λ l. refl) (λ end l. refl) is.are)) None

-- ---- failures

step-quiet : (c : ℕ) (p : ProcId) (v : VcpuId) (n : Note) → IsStep p v n → of_entry (is_failure c) n ≡ false
step-quiet c p v n (inl e) = ap (of_entry (is_failure c)) e
step-quiet c p v n (inr e) = ap (of_entry (is_failure c)) e

stop-quiet : (c : ℕ) (v : VcpuId) (s : Stop) → Every (λ n. of_entry (is_failure c) n ≡ false) (told_of_stop v s)
stop-quiet c v stop.Paused = tt
stop-quiet c v stop.VcpuHalted = (refl, tt)
stop-quiet c v (stop.GuestEnded end) = (refl, tt)
stop-quiet c v (stop.CellDead cell) = (refl, tt)

-- an item that isn't the failure of this cell has no note of it
pub item-quiet : (m : Machine) (g c : ℕ) (item : Planned) (outcome : Outcome) (told : List SidedNote) → IsTold m item outcome told → fails_of c item.work ≡ false → tally (of_entry (is_failure c)) (with_side g told) ≡ 0
item-quiet m g c item outcome told is other = by item.work other outcome is
  where
    f : Note → Bool
    f = of_entry (is_failure c)

    by : (work : Work) → fails_of c work ≡ false → (outcome : Outcome) → IsToldWork m item work outcome told → tally f (with_side g told) ≡ 0
    by (Runs h u n) other (Slice slice) is =
        run-side f g h is.0 told is.2
        ∙ none-of f (h == g) is.0 (tally-none f is.0 (slice-every (λ x. f x ≡ false) _ _ _ _ _ slice is.0 is.1 (λ x s. step-quiet c _ _ x s) refl refl (λ s. stop-quiet c _ s)))
    by (Runs h u n) other Asked is = absurd is
    by (Runs h u n) other (Failure failure) is = absurd is
    by (Asks h wish) other (Slice slice) is = absurd is
    by (Asks h wish) other Asked is = run-side f g h (note_of wish ∷ []) told is ∙ none-of f (h == g) (note_of wish ∷ []) refl
    by (Asks h wish) other (Failure failure) is = absurd is
    by (Fails d) other (Slice slice) is = absurd is
    by (Fails d) other Asked is = absurd is
    by (Fails d) other (Failure failure) is = tally-none f (with_side g told) (every-side (λ n. f n ≡ false) g told (fates-every (λ n. f n ≡ false) failure.cell 0 is.fates told (ap (λ k. k == c) is.cell_is ∙ other) refl (λ end. refl) is.are))

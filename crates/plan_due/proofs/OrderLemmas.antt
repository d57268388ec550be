-- What may come after each item.
use Rattle.std.proofs.Common.{◌≡◌, ◌≢◌, ℕ, suc, ◌<◌, ◌==◌, if◌then◌else◌, cond, Bool, true, false, List, [], ◌∷◌, ◌++◌, map, refl, sym, ap, ◌∙◌, subst, arith, eq-eqb, inl, inr, ◌⊎◌, Some}
use Rattle.std.specs.Prelude.{slice_get}
use Rattle.std.proofs.lemmas.Bool.{eqb-true}
use Rattle.std.proofs.lemmas.Bool.Decides.{eqb_tells}
use Rattle.base_words.specs.declared.events.End.{End}
use Rattle.base_words.specs.declared.events.End.TheVariants.{Halted as ByHalt, Budget, CellFailed as ByCell}
use Rattle.base_words.specs.declared.events.Event.{Event}
use Rattle.base_words.specs.declared.events.Event.TheVariants.{Direct, Refill, Emulate, Begin, Ack, Finish, Load, Unload, PacketIn, Discard, Skip, CellFails, End as Ending}
use Rattle.shootdown.specs.declared.notes.Note.{Note}
use Rattle.shootdown.specs.declared.notes.Note.TheVariants.{Made, Asked as AskedNote, Halted, Ended, Dead}
use Rattle.shootdown.specs.declared.view.SidedNote.{SidedNote}
use Rattle.shootdown.specs.Notes.{sided, with_side}
use Rattle.isolation_law.specs.Surroundings.{cell_of_processor}
use Rattle.isolation_law.specs.CellFailure.{end_by}
use Rattle.isolation_law.specs.CellFailure.{is_failure}
use Rattle.guest_core.specs.Noting.{IsPastEnd, is_step_of as is_note_step_of, is_failure_of}
use Rattle.guest_core.specs.declared.records.Cut.{Cut}
use Rattle.guest_core.specs.declared.records.Cut.TheVariants.{Whole, VcpuHalted, GuestEnded, CellFailed}
use Rattle.guest_core.specs.declared.records.SliceRecord.{SliceRecord}
use Rattle.plan_due.specs.Stops.{told_of_stop}
use Rattle.plan_due.specs.Planned.{Work, Runs, Asks, Fails, Planned, fails_of}
use Rattle.plan_due.specs.PlanDue.{Left, AfterSlice, AfterCut, After, AllAfter, AreInOrder}
use Rattle.plan_due.specs.Slices.{Machine, vcpu_at, IsCause, IsToldRun, IsToldWork, IsTold}
use Rattle.plan_due.specs.Leftover.{HasGuest, IsPlace}
use Rattle.plan_due.specs.declared.outcome.Outcome.{Outcome}
use Rattle.plan_due.specs.declared.outcome.Outcome.TheVariants.{Slice, Asked, Failure}
use Rattle.plan_due.proofs.NoteLists.{Every, every-left, every-right, tally, tally-none, with_side-told}
use Rattle.plan_due.proofs.JournalLemmas.{of_entry}
use Rattle.plan_due.proofs.SliceLemmas.{every-stop, slice-none}
use Rattle.plan_due.proofs.CertLemmas.{Certs, own_notes}
use Rattle.plan_due.proofs.DueLemmas.{Agrees, Follows, InOrder, AllOf, IsMade, AreMade, own-first, own-other, order-across, order-rest}

-- all notes of a later item may come after all of an earlier one
abbrev MayCome : Left → ℕ → List Note → List Note → Type 0
MayCome guest p xs ys = Every (λ x. Every (Follows guest p x) ys) xs

come-left : (guest : Left) (p : ℕ) (xs ys zs : List Note) → MayCome guest p xs (ys ++ zs) → MayCome guest p xs ys
come-left guest p [] ys zs e = tt
come-left guest p (x ∷ xs) ys zs e = (every-left (Follows guest p x) ys zs e.0, come-left guest p xs ys zs e.1)

come-right : (guest : Left) (p : ℕ) (xs ys zs : List Note) → MayCome guest p xs (ys ++ zs) → MayCome guest p xs zs
come-right guest p [] ys zs e = tt
come-right guest p (x ∷ xs) ys zs e = (every-right (Follows guest p x) ys zs e.0, come-right guest p xs ys zs e.1)

every-map : (P Q : Note → Type 0) → ((n : Note) → P n → Q n) → (notes : List Note) → Every P notes → Every Q notes
every-map P Q f [] e = tt
every-map P Q f (n ∷ notes) e = (f n e.0, every-map P Q f notes e.1)

past-end-step : (u : ℕ) (end : End) (n : Note) → IsPastEnd end n → is_note_step_of u n ≡ false
past-end-step u ByHalt n e = e u
past-end-step u Budget n e = e u
past-end-step u (ByCell c) n e = e.0 u

same-failure : (c : ℕ) (n : Note) → is_failure_of c n ≡ of_entry (is_failure c) n
same-failure c (Made e) = refl
same-failure c (AskedNote page kind node) = refl
same-failure c (Halted v) = refl
same-failure c (Ended end) = refl
same-failure c (Dead d) = refl

-- a note of a failure, and what holds of it
failing : (c : ℕ) (P : Note → Type 0) (notes : List Note) → 0 < tally (of_entry (is_failure c)) notes → Every P notes → (n : Note) × (of_entry (is_failure c) n ≡ true) × P n
failing c P [] some e = absurd (omega (arith, some))
failing c P (n ∷ notes) some e = by (λ l. failing c P notes l e.1) (of_entry (is_failure c) n) refl
  where
    by : (0 < tally (of_entry (is_failure c)) notes → (x : Note) × (of_entry (is_failure c) x ≡ true) × P x) → (b : Bool) → of_entry (is_failure c) n ≡ b → (x : Note) × (of_entry (is_failure c) x ≡ true) × P x
    by rest true is = (n, is, e.0)
    by rest false is = rest (let none = ap (λ (b : Bool). cond b (suc 0) 0) is in omega (arith, some, none))

-- after it no processor of the cell makes a step
past-failing : (guest : Left) (p c : ℕ) (ys : List Note) (n : Note) → of_entry (is_failure c) n ≡ true → cell_of_processor guest.state.around p ≡ c → Every (Follows guest p n) ys → (u : ℕ) → Every (λ y. is_note_step_of u y ≡ false) ys
past-failing guest p c ys (AskedNote page kind node) is there e u = absurd (no is)
  where
    no : false ≡ true → ⊥
    no k = cc
past-failing guest p c ys (Halted v) is there e u = absurd (no is)
  where
    no : false ≡ true → ⊥
    no k = cc
past-failing guest p c ys (Ended end) is there e u = absurd (no is)
  where
    no : false ≡ true → ⊥
    no k = cc
past-failing guest p c ys (Dead d) is there e u = absurd (no is)
  where
    no : false ≡ true → ⊥
    no k = cc
past-failing guest p c ys (Made old) is there e u = by old is e
  where
    no : false ≡ true → ⊥
    no k = cc

    by : (old : Event) → is_failure c old ≡ true → Every (Follows guest p (Made old)) ys → Every (λ y. is_note_step_of u y ≡ false) ys
    by (Direct q v) is e = absurd (no is)
    by (Refill q) is e = absurd (no is)
    by (Emulate q v) is e = absurd (no is)
    by (Begin q kind node who) is e = absurd (no is)
    by (Ack q page) is e = absurd (no is)
    by (Finish page) is e = absurd (no is)
    by (Load q v) is e = absurd (no is)
    by (Unload q) is e = absurd (no is)
    by (PacketIn k) is e = absurd (no is)
    by (Discard k) is e = absurd (no is)
    by (Skip k) is e = absurd (no is)
    by (CellFails d) is e = every-map (Follows guest p (Made (CellFails d))) (λ y. is_note_step_of u y ≡ false) (λ y f. f.no_steps (there ∙ sym (eqb-true d.0 c is)) u) ys e
    by (Ending end) is e = absurd (no is)

-- the notes of a run are all with its guest
own-side : (g : ℕ) (told : List Note) (notes : List SidedNote) → notes ≡ map (sided g) told → with_side g notes ≡ told
own-side g told notes e = ap (with_side g) e ∙ with_side-told g g told ∙ ap (λ (b : Bool). if b then told else []) (eq-eqb g g refl)

pair : (m : Machine) (guests : List Left) (item later : Planned) (outcome next : Outcome) (told after : List SidedNote) → ((g : ℕ) (guest : Left) → slice_get guests g ≡ Some guest → Agrees m guest)
    → HasGuest guests item.work → HasGuest guests later.work → IsTold m item outcome told → IsTold m later next after
    → ((c : ℕ) → fails_of c item.work ≡ true → IsMade guests c told) → ((c : ℕ) → fails_of c later.work ≡ true → IsMade guests c after)
    → ((g : ℕ) (guest : Left) → slice_get guests g ≡ Some guest → MayCome guest item.processor (with_side g told) (with_side g after))
    → After (m.cell_at item.processor) item.work outcome later.work next
pair m guests item later outcome next told after agrees place there is are made remade come = by item.work outcome later.work next place there is are made remade
  where
    p : ℕ
    p = item.processor

    -- what a run leaves to come after it
    last : (g v n : ℕ) (slice : SliceRecord) (guest : Left) → slice_get guests g ≡ Some guest → (r : IsToldRun m item g v n slice told) → Every (λ x. Every (Follows guest p x) (with_side g after)) (told_of_stop (vcpu_at v) r.1.by)
    last g v n slice guest at r = every-stop (λ x. Every (Follows guest p x) (with_side g after)) _ _ _ _ _ slice r.0 r.1 (subst (Every (λ x. Every (Follows guest p x) (with_side g after))) (own-side g r.0 told r.2) (come g guest at))

    no-steps-later : (g h u k : ℕ) (t : SliceRecord) → h ≡ g → IsToldRun m later h u k t after → Every (λ y. is_note_step_of u y ≡ false) (with_side g after) → t.steps ≡ 0
    no-steps-later g h u k t same r none = slice-none _ _ _ _ _ t r.0 r.1 (subst (Every (λ y. is_note_step_of u y ≡ false)) (ap (λ (j : ℕ). with_side j after) (sym same) ∙ own-side h r.0 after r.2) none)

    runs : (g v n h u k : ℕ) (s t : SliceRecord) (guest : Left) → slice_get guests g ≡ Some guest → (r : IsToldRun m item g v n s told) → IsToldRun m later h u k t after → (cause : Cut) → IsCause (m.cell_at p) n s.steps r.1.by cause → AfterSlice g v cause h u t.steps
    runs g v n h u k s t guest at r q Whole c = tt
    runs g v n h u k s t guest at r q VcpuHalted c = λ same vcpu.
        let one : Every (λ x. Every (Follows guest p x) (with_side g after)) (Halted (vcpu_at v) ∷ []) = subst (λ b. Every (λ x. Every (Follows guest p x) (with_side g after)) (told_of_stop (vcpu_at v) b)) c.1 (last g v n s guest at r) in
        no-steps-later g h u k t same q (subst (λ (w : ℕ). Every (λ y. is_note_step_of w y ≡ false) (with_side g after)) (sym vcpu) one.0)
    runs g v n h u k s t guest at r q (GuestEnded end) c = λ same.
        let one : Every (λ x. Every (Follows guest p x) (with_side g after)) (Ended end ∷ []) = subst (λ b. Every (λ x. Every (Follows guest p x) (with_side g after)) (told_of_stop (vcpu_at v) b)) c.1 (last g v n s guest at r) in
        no-steps-later g h u k t same q (every-map (Follows guest p (Ended end)) (λ y. is_note_step_of u y ≡ false) (λ y e. past-end-step u end y e) (with_side g after) one.0)
    runs g v n h u k s t guest at r q (CellFailed d) c = λ same.
        let one : Every (λ x. Every (Follows guest p x) (with_side g after)) (Dead d ∷ []) = subst (λ b. Every (λ x. Every (Follows guest p x) (with_side g after)) (told_of_stop (vcpu_at v) b)) c.1 (last g v n s guest at r) in
        no-steps-later g h u k t same q (every-map (Follows guest p (Dead d)) (λ y. is_note_step_of u y ≡ false) (λ y f. f.no_steps ((agrees g guest at).cells p ∙ sym c.3) u) (with_side g after) one.0)

    never : (g d : ℕ) (guest : Left) → slice_get guests g ≡ Some guest → IsMade guests d after → Every (λ y. is_failure_of d y ≡ false) (with_side g after) → ⊥
    never g d guest at made none = let no = tally-none (of_entry (is_failure d)) (with_side g after) (every-map (λ y. is_failure_of d y ≡ false) (λ y. of_entry (is_failure d) y ≡ false) (λ y e. sym (same-failure d y) ∙ e) (with_side g after) none) in omega (arith, made g guest at, no)

    cuts : (g v n d : ℕ) (s : SliceRecord) (guest : Left) → slice_get guests g ≡ Some guest → (r : IsToldRun m item g v n s told) → IsMade guests d after → (cause : Cut) → IsCause (m.cell_at p) n s.steps r.1.by cause → AfterCut cause d
    cuts g v n d s guest at r made Whole c = tt
    cuts g v n d s guest at r made VcpuHalted c = tt
    cuts g v n d s guest at r made (GuestEnded end) c = λ same.
        let one : Every (λ x. Every (Follows guest p x) (with_side g after)) (Ended end ∷ []) = subst (λ b. Every (λ x. Every (Follows guest p x) (with_side g after)) (told_of_stop (vcpu_at v) b)) c.1 (last g v n s guest at r) in
        let none : Every (IsPastEnd (end_by d)) (with_side g after) = subst (λ (e : End). Every (IsPastEnd e) (with_side g after)) same one.0 in
        never g d guest at made (every-map (IsPastEnd (end_by d)) (λ y. is_failure_of d y ≡ false) (λ y e. e.1) (with_side g after) none)
    cuts g v n d s guest at r made (CellFailed e) c = λ same.
        let one : Every (λ x. Every (Follows guest p x) (with_side g after)) (Dead e ∷ []) = subst (λ b. Every (λ x. Every (Follows guest p x) (with_side g after)) (told_of_stop (vcpu_at v) b)) c.1 (last g v n s guest at r) in
        never g d guest at made (every-map (Follows guest p (Dead e)) (λ y. is_failure_of d y ≡ false) (λ y f. ap (λ (k : ℕ). is_failure_of k y) (sym same) ∙ f.no_failure) (with_side g after) one.0)

    by : (work : Work) (outcome : Outcome) (later_work : Work) (next : Outcome) → HasGuest guests work → HasGuest guests later_work → IsToldWork m item work outcome told → IsToldWork m later later_work next after
        → ((c : ℕ) → fails_of c work ≡ true → IsMade guests c told) → ((c : ℕ) → fails_of c later_work ≡ true → IsMade guests c after) → After (m.cell_at p) work outcome later_work next
    by (Runs g v n) (Slice s) (Runs h u k) (Slice t) guest other r q made remade = runs g v n h u k s t guest.0 guest.1 r q s.cause r.1.cause
    by (Runs g v n) (Slice s) (Fails d) next guest other r q made remade = cuts g v n d s guest.0 guest.1 r (remade d (eq-eqb d d refl)) s.cause r.1.cause
    by (Fails c) failure (Runs h u k) (Slice t) guest other r q made remade = λ same.
        let f = failing c (λ x. Every (Follows other.0 p x) (with_side h after)) (with_side h told) (made c (eq-eqb c c refl) h other.0 other.1) (come h other.0 other.1) in
        no-steps-later h h u k t refl q (past-failing other.0 p c (with_side h after) f.0 f.1 ((agrees h other.0 other.1).cells p ∙ same) f.2 u)
    by (Runs g v n) (Slice s) (Runs h u k) Asked guest other r q made remade = tt
    by (Runs g v n) (Slice s) (Runs h u k) (Failure f) guest other r q made remade = tt
    by (Runs g v n) (Slice s) (Asks h wish) next guest other r q made remade = tt
    by (Runs g v n) Asked later_work next guest other r q made remade = absurd r
    by (Runs g v n) (Failure f) later_work next guest other r q made remade = absurd r
    by (Asks g wish) outcome later_work next guest other r q made remade = tt
    by (Fails c) failure (Runs h u k) Asked guest other r q made remade = tt
    by (Fails c) failure (Runs h u k) (Failure f) guest other r q made remade = tt
    by (Fails c) failure (Asks h wish) next guest other r q made remade = tt
    by (Fails c) failure (Fails d) next guest other r q made remade = tt

all-after : (m : Machine) (processors : ℕ) (guests : List Left) (item : Planned) (outcome : Outcome) (told : List SidedNote) → ((g : ℕ) (guest : Left) → slice_get guests g ≡ Some guest → Agrees m guest)
    → HasGuest guests item.work → IsTold m item outcome told → ((c : ℕ) → fails_of c item.work ≡ true → IsMade guests c told)
    → (plan : List Planned) (outcomes : List Outcome) (tolds : List (List SidedNote)) → Certs m plan outcomes tolds → Every (IsPlace processors guests) plan → AreMade guests plan tolds
    → ((g : ℕ) (guest : Left) → slice_get guests g ≡ Some guest → MayCome guest item.processor (with_side g told) (with_side g (own_notes item.processor plan tolds)))
    → AllAfter m item outcome plan outcomes
all-after m processors guests item outcome told agrees place is made [] outcomes tolds certs places makes come = tt
all-after m processors guests item outcome told agrees place is made (j ∷ plan) [] tolds certs places makes come = tt
all-after m processors guests item outcome told agrees place is made (j ∷ plan) (o ∷ outcomes) [] certs places makes come = absurd certs
all-after m processors guests item outcome told agrees place is made (j ∷ plan) (o ∷ outcomes) (t ∷ tolds) certs places makes come = (
  λ same. pair m guests item j outcome o told t agrees place places.0.guest is certs.0 made makes.0 (λ g guest at.
      come-left guest item.processor (with_side g told) (with_side g t) (with_side g (own_notes item.processor plan tolds)) (subst (MayCome guest item.processor (with_side g told)) (own-first item.processor g j plan t tolds same) (come g guest at))),
  all-after m processors guests item outcome told agrees place is made plan outcomes tolds certs.1 places.1 makes.1 (λ g guest at. rest g guest (come g guest at) (eqb_tells j.processor item.processor)),
)
  where
    rest : (g : ℕ) (guest : Left) → MayCome guest item.processor (with_side g told) (with_side g (own_notes item.processor (j ∷ plan) (t ∷ tolds))) → (((j.processor == item.processor) ≡ true) × (j.processor ≡ item.processor)) ⊎ (((j.processor == item.processor) ≡ false) × (j.processor ≢ item.processor)) → MayCome guest item.processor (with_side g told) (with_side g (own_notes item.processor plan tolds))
    rest g guest c (inl same) = come-right guest item.processor (with_side g told) (with_side g t) (with_side g (own_notes item.processor plan tolds)) (subst (MayCome guest item.processor (with_side g told)) (own-first item.processor g j plan t tolds same.1) c)
    rest g guest c (inr other) = subst (MayCome guest item.processor (with_side g told)) (own-other item.processor g j plan t tolds other.1) c

pub all-ordered : (m : Machine) (processors : ℕ) (guests : List Left) → ((g : ℕ) (guest : Left) → slice_get guests g ≡ Some guest → Agrees m guest)
    → (plan : List Planned) (outcomes : List Outcome) (tolds : List (List SidedNote)) → Certs m plan outcomes tolds → Every (IsPlace processors guests) plan → AreMade guests plan tolds → AllOf InOrder processors guests plan tolds → AreInOrder m plan outcomes
all-ordered m processors guests agrees [] outcomes tolds certs places makes order = tt
all-ordered m processors guests agrees (i ∷ plan) [] tolds certs places makes order = tt
all-ordered m processors guests agrees (i ∷ plan) (o ∷ outcomes) [] certs places makes order = absurd certs
all-ordered m processors guests agrees (i ∷ plan) (o ∷ outcomes) (t ∷ tolds) certs places makes order = (
  all-after m processors guests i o t agrees places.0.guest certs.0 makes.0 plan outcomes tolds certs.1 places.1 makes.1 (λ g guest at.
      order-across guest i.processor (with_side g t) (with_side g (own_notes i.processor plan tolds)) (subst (InOrder guest i.processor) (own-first i.processor g i plan t tolds refl) (order i.processor g guest places.0.on at))),
  all-ordered m processors guests agrees plan outcomes tolds certs.1 places.1 makes.1 (order-rest processors guests i plan t tolds order),
)

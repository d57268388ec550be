-- What holds of each guest's last state holds of what was told of each item; and what may come after it.
use Rattle.std.proofs.Common.{◌≡◌, ◌≢◌, ℕ, zero, suc, ◌+◌, ◌<◌, ◌≤◌, ◌==◌, if◌then◌else◌, cond, Bool, true, false, List, [], ◌∷◌, ◌++◌, length, refl, sym, ap, ◌∙◌, subst, arith, eq-eqb, ne_eqb, inl, inr, ◌⊎◌, ⊎_elim, Option, Some, None, count_by}
use Rattle.std.specs.Prelude.{slice_get}
use Rattle.std.proofs.lemmas.Bool.Decides.{eqb_tells}
use Rattle.base_words.specs.declared.ids.CellId.{CellId}
use Rattle.base_words.specs.declared.events.End.{End}
use Rattle.base_words.specs.declared.events.End.TheVariants.{Halted as ByHalt, Budget, CellFailed as ByCell}
use Rattle.shootdown.specs.declared.notes.Note.{Note}
use Rattle.shootdown.specs.declared.notes.Note.TheVariants.{Halted, Ended, Dead}
use Rattle.shootdown.specs.declared.view.SidedNote.{SidedNote}
use Rattle.shootdown.specs.Notes.{sided, with_side}
use Rattle.isolation_law.specs.Surroundings.{cell_of_processor}
use Rattle.isolation_law.specs.GuestState.{GuestState, is_dead}
use Rattle.isolation_law.specs.CellFailure.{end_by, EndsAs}
use Rattle.isolation_law.specs.CellFailure.{is_failure}
use Rattle.plan_due.specs.Failures.{failures_in, once_if}
use Rattle.guest_core.specs.Noting.{HoldsOf, MayFollow}
use Rattle.guest_core.specs.declared.records.Cut.{Cut}
use Rattle.guest_core.specs.declared.records.Cut.TheVariants.{Whole, VcpuHalted, GuestEnded, CellFailed}
use Rattle.plan_due.specs.Stops.{Stop, told_of_stop}
use Rattle.guest_core.specs.declared.answers.Fate.{Fate}
use Rattle.guest_core.specs.declared.answers.Fate.TheVariants.{Ends, Stays, WasEnded, WasDead}
use Rattle.guest_lock.specs.Fates.{IsToldFate, AreToldFates, ended_by, ended_from}
use Rattle.plan_due.specs.Planned.{Work, Runs, Asks, Fails, Planned, fails_of, is_fail_of}
use Rattle.plan_due.specs.PlanDue.{Left, is_end_by, ended_by_cell, CutBy, HasSteps, IsDone, AreDone}
use Rattle.plan_due.specs.Slices.{Machine, vcpu_at, IsCause, IsToldWork, IsTold}
use Rattle.plan_due.specs.Leftover.{HasGuest, IsPlace}
use Rattle.plan_due.specs.declared.outcome.Outcome.{Outcome}
use Rattle.plan_due.specs.declared.outcome.Outcome.TheVariants.{Slice, Asked, Failure}
use Rattle.plan_due.proofs.NoteLists.{Every, every-left, every-right, tally, tally-append, with_side-append, with_side-told, with_side-slice}
use Rattle.plan_due.proofs.JournalLemmas.{of_entry, count-cons}
use Rattle.plan_due.proofs.SliceLemmas.{every-stop}
use Rattle.plan_due.proofs.CertLemmas.{Certs, own_notes}
use Rattle.plan_due.proofs.ItemLemmas.{item-quiet}

-- ---- what holds of a guest at the end

pub record Agrees (m : Machine) (guest : Left) : Type 0 where
  pub ended : (c : ℕ) → EndsAs guest.state (end_by c) → is_dead guest.state c ≡ true
  pub dead : (c : ℕ) → failures_in c guest.journal ≡ once_if (is_dead guest.state c)
  pub cells : (p : ℕ) → cell_of_processor guest.state.around p ≡ m.cell_at p

-- what stands in a guest's notes, of those of one processor
abbrev pub Holds : Left → List Note → Type 0
Holds guest notes = Every (HoldsOf guest.state) notes

abbrev pub Follows : Left → ℕ → Note → Note → Type 0
Follows guest p x y = MayFollow guest.state.around x (sided p y)

abbrev pub InOrder : Left → ℕ → List Note → Type 0
InOrder guest p [] = Unit {0}
InOrder guest p (n ∷ notes) = Every (Follows guest p n) notes × InOrder guest p notes

pub order-across : (guest : Left) (p : ℕ) (xs ys : List Note) → InOrder guest p (xs ++ ys) → Every (λ x. Every (Follows guest p x) ys) xs
order-across guest p [] ys order = tt
order-across guest p (x ∷ xs) ys order = (every-right (Follows guest p x) xs ys order.0, order-across guest p xs ys order.1)

order-right : (guest : Left) (p : ℕ) (xs ys : List Note) → InOrder guest p (xs ++ ys) → InOrder guest p ys
order-right guest p [] ys order = order
order-right guest p (x ∷ xs) ys order = order-right guest p xs ys order.1

-- ---- each item

-- of the notes of each processor with each guest
abbrev pub AllOf : (Left → ℕ → List Note → Type 0) → ℕ → List Left → List Planned → List (List SidedNote) → Type 0
AllOf P processors guests plan tolds = (p g : ℕ) (guest : Left) → p < processors → slice_get guests g ≡ Some guest → P guest p (with_side g (own_notes p plan tolds))

pub own-first : (p g : ℕ) (item : Planned) (plan : List Planned) (told : List SidedNote) (tolds : List (List SidedNote)) → item.processor ≡ p → with_side g (own_notes p (item ∷ plan) (told ∷ tolds)) ≡ with_side g told ++ with_side g (own_notes p plan tolds)
own-first p g item plan told tolds e =
    with_side-append g (if item.processor == p then told else []) (own_notes p plan tolds)
    ∙ ap (λ (b : Bool). with_side g (if b then told else []) ++ with_side g (own_notes p plan tolds)) (eq-eqb item.processor p e)

pub own-other : (p g : ℕ) (item : Planned) (plan : List Planned) (told : List SidedNote) (tolds : List (List SidedNote)) → item.processor ≢ p → with_side g (own_notes p (item ∷ plan) (told ∷ tolds)) ≡ with_side g (own_notes p plan tolds)
own-other p g item plan told tolds ne =
    with_side-append g (if item.processor == p then told else []) (own_notes p plan tolds)
    ∙ ap (λ (b : Bool). with_side g (if b then told else []) ++ with_side g (own_notes p plan tolds)) (ne_eqb item.processor p ne)

pub holds-rest : (processors : ℕ) (guests : List Left) (item : Planned) (plan : List Planned) (told : List SidedNote) (tolds : List (List SidedNote)) → AllOf (λ guest p notes. Holds guest notes) processors guests (item ∷ plan) (told ∷ tolds) → AllOf (λ guest p notes. Holds guest notes) processors guests plan tolds
holds-rest processors guests item plan told tolds all p g guest few at = by (eqb_tells item.processor p)
  where
    by : (((item.processor == p) ≡ true) × (item.processor ≡ p)) ⊎ (((item.processor == p) ≡ false) × (item.processor ≢ p)) → Holds guest (with_side g (own_notes p plan tolds))
    by (inl same) = every-right (HoldsOf guest.state) (with_side g told) (with_side g (own_notes p plan tolds)) (subst (Holds guest) (own-first p g item plan told tolds same.1) (all p g guest few at))
    by (inr other) = subst (Holds guest) (own-other p g item plan told tolds other.1) (all p g guest few at)

pub order-rest : (processors : ℕ) (guests : List Left) (item : Planned) (plan : List Planned) (told : List SidedNote) (tolds : List (List SidedNote)) → AllOf InOrder processors guests (item ∷ plan) (told ∷ tolds) → AllOf InOrder processors guests plan tolds
order-rest processors guests item plan told tolds all p g guest few at = by (eqb_tells item.processor p)
  where
    by : (((item.processor == p) ≡ true) × (item.processor ≡ p)) ⊎ (((item.processor == p) ≡ false) × (item.processor ≢ p)) → InOrder guest p (with_side g (own_notes p plan tolds))
    by (inl same) = order-right guest p (with_side g told) (with_side g (own_notes p plan tolds)) (subst (InOrder guest p) (own-first p g item plan told tolds same.1) (all p g guest few at))
    by (inr other) = subst (InOrder guest p) (own-other p g item plan told tolds other.1) (all p g guest few at)

pub holds-first : (processors : ℕ) (guests : List Left) (item : Planned) (plan : List Planned) (told : List SidedNote) (tolds : List (List SidedNote)) → item.processor < processors → AllOf (λ guest p notes. Holds guest notes) processors guests (item ∷ plan) (told ∷ tolds) → (g : ℕ) (guest : Left) → slice_get guests g ≡ Some guest → Holds guest (with_side g told)
holds-first processors guests item plan told tolds few all g guest at = every-left (HoldsOf guest.state) (with_side g told) (with_side g (own_notes item.processor plan tolds)) (subst (Holds guest) (own-first item.processor g item plan told tolds refl) (all item.processor g guest few at))

-- ---- dead cells and failures

true-false : true ≡ false → ⊥
true-false e = cc

-- each failure was made where it was carried out
abbrev pub IsMade : List Left → ℕ → List SidedNote → Type 0
IsMade guests c told = (g : ℕ) (guest : Left) → slice_get guests g ≡ Some guest → 0 < tally (of_entry (is_failure c)) (with_side g told)

abbrev pub AreMade : List Left → List Planned → List (List SidedNote) → Type 0
AreMade guests (item ∷ plan) (told ∷ tolds) = ((c : ℕ) → fails_of c item.work ≡ true → IsMade guests c told) × AreMade guests plan tolds
AreMade guests plan tolds = Unit {0}

-- a failure of a cell that was carried out tells that the cell is dead
pub dead-told : (m : Machine) (guest : Left) (cell : CellId) (fate : Fate) (told : List Note) → Agrees m guest → IsToldFate cell fate told → Holds guest told → is_dead guest.state cell.0 ≡ true
dead-told m guest cell Ends told agrees is holds = let h = subst (Holds guest) is holds in h.0
dead-told m guest cell Stays told agrees is holds = let h = subst (Holds guest) is holds in h.0
dead-told m guest cell WasEnded told agrees is holds = let h = subst (Holds guest) is.2 holds in h.0
dead-told m guest cell WasDead told agrees is holds = ⊎_elim
    (λ (e : told ≡ Dead cell ∷ []). let h = subst (Holds guest) e holds in h.0.dead)
    (λ (e : told ≡ Ended (ByCell cell) ∷ []). let h = subst (Holds guest) e holds in agrees.ended cell.0 (inl h.0.0))
    is

-- all notes of all items with a guest
abbrev pub all_tally : (Note → Bool) → ℕ → List (List SidedNote) → ℕ
all_tally f g [] = 0
all_tally f g (told ∷ tolds) = tally f (with_side g told) + all_tally f g tolds

pub own-most : (f : Note → Bool) (p g : ℕ) (plan : List Planned) (tolds : List (List SidedNote)) → tally f (with_side g (own_notes p plan tolds)) ≤ all_tally f g tolds
own-most f p g [] [] = omega arith
own-most f p g [] (t ∷ tolds) = omega arith
own-most f p g (i ∷ plan) [] = omega arith
own-most f p g (i ∷ plan) (t ∷ tolds) =
    let both = ap (tally f) (with_side-append g (if i.processor == p then t else []) (own_notes p plan tolds)) ∙ tally-append f (with_side g (if i.processor == p then t else [])) (with_side g (own_notes p plan tolds)) in
    let first = one (i.processor == p) in
    let rest = own-most f p g plan tolds in
    omega (arith, both, first, rest)
  where
    one : (b : Bool) → tally f (with_side g (if b then t else [])) ≤ tally f (with_side g t)
    one true = omega arith
    one false = omega arith

-- where no item is the failure of a cell, none has a note of it
none-made : (m : Machine) (c g : ℕ) (plan : List Planned) (outcomes : List Outcome) (tolds : List (List SidedNote)) → Certs m plan outcomes tolds → count_by (is_fail_of c) plan ≡ 0 → all_tally (of_entry (is_failure c)) g tolds ≡ 0
none-made m c g [] [] [] certs none = refl
none-made m c g [] [] (t ∷ tolds) certs none = absurd certs
none-made m c g [] (o ∷ outcomes) tolds certs none = absurd certs
none-made m c g (i ∷ plan) [] tolds certs none = absurd certs
none-made m c g (i ∷ plan) (o ∷ outcomes) [] certs none = absurd certs
none-made m c g (i ∷ plan) (o ∷ outcomes) (t ∷ tolds) certs none =
    let count = count-cons (is_fail_of c) i plan in
    let quiet = item-quiet m g c i o t certs.0 (off (fails_of c i.work) (omega (arith, count, none))) in
    let rest = none-made m c g plan outcomes tolds certs.1 (omega (arith, count, none)) in
    omega (arith, quiet, rest)
  where
    off : (b : Bool) → cond b (suc 0) 0 ≡ 0 → b ≡ false
    off true e = absurd (omega (arith, e))
    off false e = refl

pub some-fail : (m : Machine) (c g : ℕ) (plan : List Planned) (outcomes : List Outcome) (tolds : List (List SidedNote)) → Certs m plan outcomes tolds → 0 < all_tally (of_entry (is_failure c)) g tolds → 0 < count_by (is_fail_of c) plan
some-fail m c g plan outcomes tolds certs some = by (count_by (is_fail_of c) plan) refl
  where
    by : (n : ℕ) → count_by (is_fail_of c) plan ≡ n → 0 < count_by (is_fail_of c) plan
    by zero e = absurd (omega (arith, some, none-made m c g plan outcomes tolds certs e))
    by (suc n) e = omega (arith, e)

-- with one guest
abbrev pub OnlyMade : ℕ → ℕ → List Planned → List (List SidedNote) → Type 0
OnlyMade c g (item ∷ plan) (told ∷ tolds) = (fails_of c item.work ≡ true → 0 < tally (of_entry (is_failure c)) (with_side g told)) × OnlyMade c g plan tolds
OnlyMade c g plan tolds = Unit {0}

-- the one failure of a cell is the one that was made, where it was
pub only-made : (m : Machine) (guests : List Left) (c : ℕ) (plan : List Planned) (outcomes : List Outcome) (tolds : List (List SidedNote)) → Certs m plan outcomes tolds → count_by (is_fail_of c) plan ≤ 1 → (g : ℕ) → 0 < all_tally (of_entry (is_failure c)) g tolds → OnlyMade c g plan tolds
only-made m guests c [] outcomes tolds certs few g some = tt
only-made m guests c (i ∷ plan) outcomes [] certs few g some = tt
only-made m guests c (i ∷ plan) [] (t ∷ tolds) certs few g some = absurd certs
only-made m guests c (i ∷ plan) (o ∷ outcomes) (t ∷ tolds) certs few g some = by (λ l k. only-made m guests c plan outcomes tolds certs.1 l g k) (fails_of c i.work) refl
  where
    count : count_by (is_fail_of c) (i ∷ plan) ≡ cond (fails_of c i.work) 1 0 + count_by (is_fail_of c) plan
    count = count-cons (is_fail_of c) i plan

    rest-none : (plan : List Planned) (tolds : List (List SidedNote)) → count_by (is_fail_of c) plan ≡ 0 → OnlyMade c g plan tolds
    rest-none [] tolds none = tt
    rest-none (j ∷ plan) [] none = tt
    rest-none (j ∷ plan) (t ∷ tolds) none =
        let more = count-cons (is_fail_of c) j plan in
        (λ e. (let one = ap (λ (x : Bool). cond x (suc 0) 0) e in absurd (omega (arith, more, one, none))), rest-none plan tolds (omega (arith, more, none)))

    by : (count_by (is_fail_of c) plan ≤ 1 → 0 < all_tally (of_entry (is_failure c)) g tolds → OnlyMade c g plan tolds) → (b : Bool) → fails_of c i.work ≡ b → OnlyMade c g (i ∷ plan) (t ∷ tolds)
    by next true is =
        let one = ap (λ (x : Bool). cond x (suc 0) 0) is in
        let none = none-made m c g plan outcomes tolds certs.1 (omega (arith, count, one, few)) in
        (λ e. omega (arith, some, none), rest-none plan tolds (omega (arith, count, one, few)))
    by next false is =
        let none = ap (λ (x : Bool). cond x (suc 0) 0) is in
        let quiet = item-quiet m g c i o t certs.0 is in
        (λ e. absurd (true-false (sym e ∙ is)), next (omega (arith, count, none, few)) (omega (arith, some, quiet)))

-- ---- what came of each item

end-by-not : (c : CellId) (end : End) → end ≢ ByCell c → is_end_by c.0 (Some end) ≡ false
end-by-not c ByHalt ne = refl
end-by-not c Budget ne = refl
end-by-not c (ByCell d) ne = ne_eqb d.0 c.0 (λ e. ne (ap (λ (k : ℕ). ByCell (record { 0 = k })) e))

outlived : (s : GuestState) (c : CellId) (o : Option End) → s.end ≡ o → (EndsAs s (end_by c.0) → ⊥) → is_end_by c.0 o ≡ false
outlived s c None e stays = refl
outlived s c (Some ByHalt) e stays = refl
outlived s c (Some Budget) e stays = refl
outlived s c (Some (ByCell d)) e stays = ne_eqb d.0 c.0 (λ same. stays (inl (e ∙ ap (λ (k : ℕ). Some (ByCell (record { 0 = k }))) same)))

-- whom the failure ended are those that end by the cell
fate-ended : (m : Machine) (guest : Left) (c : CellId) (k : ℕ) (fate : Fate) (told : List Note) → IsToldFate c fate told → Holds guest told → 0 < tally (of_entry (is_failure c.0)) told → ended_by k fate ≡ (if is_end_by c.0 guest.state.end then record { 0 = k } ∷ [] else [])
fate-ended m guest c k Ends told is holds made =
    let h = subst (Holds guest) is holds in
    ap (λ (b : Bool). if b then record { 0 = k } ∷ [] else []) (sym (ap (is_end_by c.0) h.1.0.0 ∙ eq-eqb c.0 c.0 refl))
fate-ended m guest c k Stays told is holds made =
    let h = subst (Holds guest) is holds in
    ap (λ (b : Bool). if b then record { 0 = k } ∷ [] else []) (sym (outlived guest.state c guest.state.end refl h.1.0.stays))
fate-ended m guest c k WasEnded told is holds made =
    let h = subst (Holds guest) is.2 holds in
    ap (λ (b : Bool). if b then record { 0 = k } ∷ [] else []) (sym (ap (is_end_by c.0) h.1.0.0 ∙ end-by-not c is.0 is.1))
fate-ended m guest c k WasDead told is holds made = absurd (⊎_elim
    (λ (e : told ≡ Dead c ∷ []). no-tally (ap (tally (of_entry (is_failure c.0))) e))
    (λ (e : told ≡ Ended (ByCell c) ∷ []). no-tally (ap (tally (of_entry (is_failure c.0))) e))
    is)
  where
    no-tally : tally (of_entry (is_failure c.0)) told ≡ 0 + 0 → ⊥
    no-tally e = omega (arith, made, e)

-- guest by guest
fates-ended : (m : Machine) (c : CellId) (k : ℕ) (fates : List Fate) (all : List SidedNote) (guests : List Left) → length fates ≡ length guests
    → ((g : ℕ) (guest : Left) → slice_get guests g ≡ Some guest → (fate : Fate) × (slice_get fates g ≡ Some fate) × IsToldFate c fate (with_side (k + g) all) × Holds guest (with_side (k + g) all) × (0 < tally (of_entry (is_failure c.0)) (with_side (k + g) all)))
    → ended_from k fates ≡ ended_by_cell c.0 k guests
fates-ended m c k [] all [] same each = refl
fates-ended m c k [] all (guest ∷ guests) same each = absurd (omega (arith, same))
fates-ended m c k (fate ∷ fates) all [] same each = absurd (omega (arith, same))
fates-ended m c k (fate ∷ fates) all (guest ∷ guests) same each =
    let first = each 0 guest refl in
    let is : Some fate ≡ Some first.0 = first.1 in
    (λ i. fate-ended m guest c k fate (with_side (k + 0) all) (subst (λ (x : Fate). IsToldFate c x (with_side (k + 0) all)) (the is) first.2) first.3 first.4 i
    ++ fates-ended m c (suc k) fates all guests (omega (arith, same)) (λ g x at. let r = each (suc g) x at in subst (λ (j : ℕ). (f : Fate) × (slice_get fates g ≡ Some f) × IsToldFate c f (with_side j all) × Holds x (with_side j all) × (0 < tally (of_entry (is_failure c.0)) (with_side j all))) (let e : k + suc g ≡ suc k + g = omega arith in e) r) i)
  where
    the : {x : Fate} → Some fate ≡ Some x → x ≡ fate
    the e = cc

-- the fate at each place
pub fate-get : (c : CellId) (k g : ℕ) (fates : List Fate) (notes : List SidedNote) → AreToldFates c k fates notes → g < length fates → (fate : Fate) × (slice_get fates g ≡ Some fate) × IsToldFate c fate (with_side (k + g) notes)
fate-get c k g [] notes are few = absurd (omega (arith, few))
fate-get c k zero (fate ∷ fates) notes are few =
    (fate, refl, subst (IsToldFate c fate) (sym (ap (with_side (k + 0)) are.3 ∙ with_side-slice (k + 0) k are.0 are.1 ∙ ap (λ (b : Bool). (if b then are.0 else []) ++ with_side (k + 0) are.1) (eq-eqb k (k + 0) (omega arith)) ∙ ap (λ (l : List Note). are.0 ++ l) (past (k + 0) (suc k) fates are.1 (omega arith) are.4) ∙ nil are.0)) are.2)
  where
    nil : (xs : List Note) → xs ++ [] ≡ xs
    nil [] = refl
    nil (x ∷ xs) = ap (λ l. x ∷ l) (nil xs)

    past : (h j : ℕ) (fates : List Fate) (notes : List SidedNote) → h < j → AreToldFates c j fates notes → with_side h notes ≡ []
    past h j [] notes lt are = ap (with_side h) are
    past h j (f ∷ fates) notes lt are = ap (with_side h) are.3 ∙ with_side-slice h j are.0 are.1 ∙ (λ i. (if ne_eqb j h (λ e. absurd (omega (arith, lt, e))) i then are.0 else []) ++ past h (suc j) fates are.1 (omega (arith, lt)) are.4 i)
fate-get c k (suc g) (fate ∷ fates) notes are few =
    let r = fate-get c (suc k) g fates are.1 are.4 (omega (arith, few)) in
    let other : (k == (k + suc g)) ≡ false = ne_eqb k (k + suc g) (λ e. absurd (omega (arith, e))) in
    let here : with_side (k + suc g) notes ≡ with_side (suc k + g) are.1 =
    ap (with_side (k + suc g)) are.3 ∙ with_side-slice (k + suc g) k are.0 are.1 ∙ ap (λ (b : Bool). (if b then are.0 else []) ++ with_side (k + suc g) are.1) other ∙ ap (λ (j : ℕ). with_side j are.1) (let e : k + suc g ≡ suc k + g = omega arith in e) in
    (r.0, r.1, subst (IsToldFate c r.0) (sym here) r.2)

cause-done : (cell : ℕ) (guest : Left) (v planned steps : ℕ) (by : Stop) (cause : Cut) → ((c : ℕ) → failures_in c guest.journal ≡ once_if (is_dead guest.state c)) → IsCause cell planned steps by cause → Every (HoldsOf guest.state) (told_of_stop (vcpu_at v) by) → HasSteps planned steps cause × CutBy cell guest v cause
cause-done cell guest v planned steps by Whole dead is holds = (is, tt)
cause-done cell guest v planned steps by VcpuHalted dead is holds =
    let one : Every (HoldsOf guest.state) (Halted (vcpu_at v) ∷ []) = subst (λ s. Every (HoldsOf guest.state) (told_of_stop (vcpu_at v) s)) is.1 holds in
    (is.0, one.0)
cause-done cell guest v planned steps by (GuestEnded end) dead is holds =
    let one : Every (HoldsOf guest.state) (Ended end ∷ []) = subst (λ s. Every (HoldsOf guest.state) (told_of_stop (vcpu_at v) s)) is.1 holds in
    (is.0, (one.0.0, one.0.1))
cause-done cell guest v planned steps by (CellFailed c) dead is holds =
    let one : Every (HoldsOf guest.state) (Dead c ∷ []) = subst (λ s. Every (HoldsOf guest.state) (told_of_stop (vcpu_at v) s)) is.1 holds in
    ((is.0, is.2), (is.3, (let count = dead c.0 ∙ ap once_if one.0.dead in omega (arith, count))))

pub get-below : (guests : List Left) (g : ℕ) (guest : Left) → slice_get guests g ≡ Some guest → g < length guests
get-below [] g guest e = absurd cc
get-below (x ∷ guests) zero guest e = omega arith
get-below (x ∷ guests) (suc g) guest e = let r = get-below guests g guest e in omega (arith, r)

item-done : (m : Machine) (processors : ℕ) (guests : List Left) (item : Planned) (outcome : Outcome) (told : List SidedNote) → m.guests ≡ length guests → ((g : ℕ) (guest : Left) → slice_get guests g ≡ Some guest → Agrees m guest)
    → IsPlace processors guests item → IsTold m item outcome told → ((g : ℕ) (guest : Left) → slice_get guests g ≡ Some guest → Holds guest (with_side g told))
    → ((c : ℕ) → fails_of c item.work ≡ true → IsMade guests c told) → IsDone m guests item item.work outcome
item-done m processors guests item outcome told many agrees place is holds made = by item.work place.guest outcome is made
  where
    by : (work : Work) → HasGuest guests work → (outcome : Outcome) → IsToldWork m item work outcome told → ((c : ℕ) → fails_of c work ≡ true → IsMade guests c told) → IsDone m guests item work outcome
    by (Runs g v n) there (Slice slice) is made =
        let slice_holds : Holds there.0 is.0 = subst (Holds there.0) (ap (with_side g) is.2 ∙ with_side-told g g is.0 ∙ ap (λ (b : Bool). if b then is.0 else []) (eq-eqb g g refl)) (holds g there.0 there.1) in
        let r = cause-done (m.cell_at item.processor) there.0 v n slice.steps is.1.by slice.cause (agrees g there.0 there.1).dead is.1.cause (every-stop (HoldsOf there.0.state) _ _ _ _ _ slice is.0 is.1 slice_holds) in
        (is.1.number, r.0, (there.0, there.1, r.1))
    by (Runs g v n) there Asked is made = absurd is
    by (Runs g v n) there (Failure failure) is made = absurd is
    by (Asks g wish) there (Slice slice) is made = absurd is
    by (Asks g wish) there Asked is made = tt
    by (Asks g wish) there (Failure failure) is made = absurd is
    by (Fails c) there (Slice slice) is made = absurd is
    by (Fails c) there Asked is made = absurd is
    by (Fails c) there (Failure failure) is made = (
      is.number,
      is.cell_is,
      is.ended ∙ fates-ended m failure.cell 0 is.fates told guests (is.all ∙ many) (λ g guest at.
          let below = get-below guests g guest at in
          let f = fate-get failure.cell 0 g is.fates told is.are (omega (arith, is.all, many, below)) in
          let zero_more : g ≡ 0 + g = omega arith in
          (f.0, f.1, f.2, subst (λ (j : ℕ). Holds guest (with_side j told)) zero_more (holds g guest at), subst (λ (j : ℕ). 0 < tally (of_entry (is_failure failure.cell.0)) (with_side j told)) zero_more (subst (λ (d : ℕ). 0 < tally (of_entry (is_failure d)) (with_side g told)) (sym is.cell_is) (made c (eq-eqb c c refl) g guest at))))
          ∙ ap (λ (d : ℕ). ended_by_cell d 0 guests) is.cell_is,
    )

pub all-done : (m : Machine) (processors : ℕ) (guests : List Left) → m.guests ≡ length guests → ((g : ℕ) (guest : Left) → slice_get guests g ≡ Some guest → Agrees m guest)
    → (plan : List Planned) (outcomes : List Outcome) (tolds : List (List SidedNote)) → Certs m plan outcomes tolds → Every (IsPlace processors guests) plan → AllOf (λ guest p notes. Holds guest notes) processors guests plan tolds → AreMade guests plan tolds → AreDone m guests plan outcomes
all-done m processors guests many agrees [] [] [] certs places holds made = tt
all-done m processors guests many agrees [] [] (t ∷ tolds) certs places holds made = absurd certs
all-done m processors guests many agrees [] (o ∷ outcomes) tolds certs places holds made = absurd certs
all-done m processors guests many agrees (i ∷ plan) [] tolds certs places holds made = absurd certs
all-done m processors guests many agrees (i ∷ plan) (o ∷ outcomes) [] certs places holds made = absurd certs
all-done m processors guests many agrees (i ∷ plan) (o ∷ outcomes) (t ∷ tolds) certs places holds made = (
  item-done m processors guests i o t many agrees places.0 certs.0 (holds-first processors guests i plan t tolds places.0.on holds) made.0,
  all-done m processors guests many agrees plan outcomes tolds certs.1 places.1 (holds-rest processors guests i plan t tolds holds) made.1,
)

-- The whole record is due for the plan: from what workers and guests leave, and the agreement of all tokens and seats.
use Rattle.std.proofs.Common.{◌≡◌, ℕ, zero, suc, ◌+◌, ◌<◌, ◌≤◌, ◌==◌, ◌&&◌, if◌then◌else◌, cond, Bool, true, false, List, [], ◌∷◌, length, All, refl, sym, ap, ◌∙◌, subst, arith, ne_eqb, Some, None, inl, inr, ◌⊎◌, count_by}
use Rattle.std.specs.Prelude.{slice_get, slice_index_or}
use Rattle.std.proofs.lemmas.Bool.{eqb-true}
use Rattle.base_words.specs.declared.events.Event.{Event}
use Rattle.event_journal.specs.Steps.{is_step_of, steps_in}
use Rattle.shootdown.specs.declared.view.SidedNote.{SidedNote}
use Rattle.shootdown.specs.Notes.{Token, Seat, sided, with_side, IsInStep}
use Rattle.isolation_law.specs.GuestState.{GuestState, is_dead}
use Rattle.isolation_law.specs.Parts.{Wish}
use Rattle.isolation_law.specs.CellFailure.{end_by, EndsAs}
use Rattle.isolation_law.specs.CellFailure.{is_failure}
use Rattle.plan_due.specs.Failures.{failures_in, once_if}
use Rattle.isolation_law.specs.Run.{Run}
use Rattle.isolation_law.specs.Start.{Boot, start}
use Rattle.guest_core.specs.Asks.{wishes_in, wishes_by}
use Rattle.guest_core.specs.Noting.{IsOwn, HoldsOf, MayFollow, AreInOrder as AreNotesInOrder, loaded_by}
use Rattle.plan_due.specs.Planned.{Work, Runs, Asks, Fails, Planned, runs_of, fails_of, is_run_of, is_fail_of, wish_of, wishes_for}
use Rattle.plan_due.specs.PlanDue.{Left, is_load_of, loads_in, AreUnloaded, journal_of, skips_of, sliced_steps, IsDue}
use Rattle.plan_due.specs.Slices.{Machine, IsToldWork, own, AreTold}
use Rattle.plan_due.specs.Dealt.{queue_of, dealt}
use Rattle.plan_due.specs.Leftover.{HasGuest, IsPlace, HasLeft, Leftover}
use Rattle.plan_due.specs.declared.outcome.Outcome.{Outcome}
use Rattle.plan_due.specs.declared.outcome.Outcome.TheVariants.{Slice, Asked, Failure}
use Rattle.plan_due.proofs.NoteLists.{Every, every-all, every-side, tally, with_side-past, find-side, in-every}
use Rattle.plan_due.proofs.JournalLemmas.{of_entry, noted_by, made-noted, count-told, steps-told, loads-told, unloaded, failures-told, count-cons}
use Rattle.plan_due.proofs.CertLemmas.{Certs, own_notes, AllTold, Dealt, deals, shares, shares-told, shares-most, free-told}
use Rattle.plan_due.proofs.ItemLemmas.{steps_each, item-steps, item-loads, item-free}
use Rattle.plan_due.proofs.AskLemmas.{noted-wishes, own-wishes, no-wishes}
use Rattle.plan_due.proofs.DueLemmas.{Agrees, Holds, Follows, InOrder, AllOf, AreMade, OnlyMade, all_tally, own-most, some-fail, only-made, dead-told, holds-rest, holds-first, fate-get, get-below, all-done}
use Rattle.plan_due.proofs.OrderLemmas.{all-ordered}

-- ---- lists by their places

get-index : {A : Type 0} (xs : List A) (i : ℕ) (x d : A) → slice_get xs i ≡ Some x → (i < length xs) × (slice_index_or xs i d ≡ x)
get-index [] i x d e = absurd cc
get-index (y ∷ ys) zero x d e = (omega arith, cc)
get-index (y ∷ ys) (suc i) x d e = let r = get-index ys i x d e in (omega (arith, r.0), r.1)

all-get : {A : Type 0} (P : A → Type 0) (xs : List A) (i : ℕ) (x : A) → All P xs → slice_get xs i ≡ Some x → P x
all-get P xs i x all e = let at = get-index xs i x x e in subst P at.1 (all i x at.0)

get-there : {A : Type 0} (xs : List A) (i : ℕ) → i < length xs → (x : A) × (slice_get xs i ≡ Some x)
get-there [] i l = absurd (let m : i < 0 = l in omega arith)
get-there (x ∷ xs) zero l = (x, refl)
get-there (x ∷ xs) (suc i) l = get-there xs i (omega arith)

side : (a b : ℕ) → (a < b) ⊎ (b ≤ a)
side a b = grind arith

journal-at : (guests : List Left) (g : ℕ) (guest : Left) → slice_get guests g ≡ Some guest → journal_of guests g ≡ guest.journal
journal-at [] g guest e = absurd cc
journal-at (x ∷ guests) zero guest e = let same : x ≡ guest = cc in ap (λ (y : Left). y.journal) same
journal-at (x ∷ guests) (suc g) guest e = journal-at guests g guest e

journal-past : (guests : List Left) (g : ℕ) → length guests ≤ g → journal_of guests g ≡ []
journal-past [] g l = refl
journal-past (x ∷ guests) zero l = absurd (omega (arith, l))
journal-past (x ∷ guests) (suc g) l = journal-past guests g (omega (arith, l))

skips-at : (guests : List Left) (g : ℕ) (guest : Left) → slice_get guests g ≡ Some guest → skips_of guests g ≡ guest.state.skips
skips-at [] g guest e = absurd cc
skips-at (x ∷ guests) zero guest e = let same : x ≡ guest = cc in ap (λ (y : Left). y.state.skips) same
skips-at (x ∷ guests) (suc g) guest e = skips-at guests g guest e

skips-past : (guests : List Left) (g : ℕ) → length guests ≤ g → skips_of guests g ≡ []
skips-past [] g l = refl
skips-past (x ∷ guests) zero l = absurd (omega (arith, l))
skips-past (x ∷ guests) (suc g) l = skips-past guests g (omega (arith, l))

notes_at : List Token → ℕ → List SidedNote
notes_at [] p = []
notes_at (t ∷ tokens) zero = t.notes
notes_at (t ∷ tokens) (suc p) = notes_at tokens p

notes_at-is : (tokens : List Token) (p : ℕ) (t : Token) → slice_get tokens p ≡ Some t → notes_at tokens p ≡ t.notes
unfolding notes_at
notes_at-is [] p t e = absurd cc
notes_at-is (u ∷ tokens) zero t e = let same : u ≡ t = cc in ap (λ (x : Token). x.notes) same
notes_at-is (u ∷ tokens) (suc p) t e = notes_at-is tokens p t e

-- ---- notes in their order

order-side : (guest : Left) (p : ℕ) (notes : List SidedNote) → AreNotesInOrder guest.state.around notes → InOrder guest p (with_side p notes)
order-side guest p [] order = tt
order-side guest p (n ∷ notes) order = by (n.side == p) (order-side guest p notes order.1)
  where
    later : (notes : List SidedNote) → Every (MayFollow guest.state.around n.note) notes → Every (Follows guest p n.note) (with_side p notes)
    later [] e = tt
    later (m ∷ notes) e = one (m.side == p) refl (later notes e.1)
      where
        one : (b : Bool) → (m.side == p) ≡ b → Every (Follows guest p n.note) (with_side p notes) → Every (Follows guest p n.note) (if b then m.note ∷ with_side p notes else with_side p notes)
        one true is rest = (subst (λ (k : ℕ). MayFollow guest.state.around n.note (sided k m.note)) (eqb-true m.side p is) e.0, rest)
        one false is rest = rest

    by : (b : Bool) → InOrder guest p (with_side p notes) → InOrder guest p (if b then n.note ∷ with_side p notes else with_side p notes)
    by true rest = (later notes (every-all (MayFollow guest.state.around n.note) notes order.0), rest)
    by false rest = rest

-- ---- items of no processor or no guest

past-steps : (p g v : ℕ) (plan : List Planned) (outcomes : List Outcome) → Every (λ (i : Planned). is_run_of p g v i ≡ false) plan → sliced_steps p g v plan outcomes ≡ 0
past-steps p g v [] [] none = refl
past-steps p g v [] (o ∷ outcomes) none = refl
past-steps p g v (i ∷ plan) [] none = refl
past-steps p g v (i ∷ plan) (Slice slice ∷ outcomes) none = (λ k. (if none.0 k then slice.steps else 0) + past-steps p g v plan outcomes none.1 k)
past-steps p g v (i ∷ plan) (Asked ∷ outcomes) none = (λ k. 0 + past-steps p g v plan outcomes none.1 k)
past-steps p g v (i ∷ plan) (Failure failure ∷ outcomes) none = (λ k. 0 + past-steps p g v plan outcomes none.1 k)

count-none : {A : Type 0} (f : A → Bool) (xs : List A) → Every (λ x. f x ≡ false) xs → count_by f xs ≡ 0
count-none f [] e = refl
count-none f (x ∷ xs) e =
    let c = count-cons f x xs in
    let one = ap (λ (b : Bool). cond b (suc 0) 0) e.0 in
    let rest = count-none f xs e.1 in omega (arith, c, one, rest)

every-of : {A : Type 0} (P Q : A → Type 0) (xs : List A) → ((x : A) → P x → Q x) → Every P xs → Every Q xs
every-of P Q [] f e = tt
every-of P Q (x ∷ xs) f e = (f x e.0, every-of P Q xs f e.1)

off-left : (b : Bool) → (false && b) ≡ false
off-left b = refl

off-right : (b : Bool) → (b && false) ≡ false
off-right true = refl
off-right false = refl

other-processor : (processors p : ℕ) (guests : List Left) (f : Work → Bool) (i : Planned) → processors ≤ p → IsPlace processors guests i → ((i.processor == p) && f i.work) ≡ false
other-processor processors p guests f i past place = ap (λ (b : Bool). b && f i.work) (ne_eqb i.processor p (λ e. absurd (let l = place.on in omega (arith, l, e, past))))

no-guest-runs : (guests : List Left) (g v : ℕ) (w : Work) → length guests ≤ g → HasGuest guests w → runs_of g v w ≡ false
no-guest-runs guests g v (Runs h u n) past there = ap (λ (b : Bool). b && (u == v)) (ne_eqb h g (λ e. absurd (let l = get-below guests h there.0 there.1 in omega (arith, l, e, past))))
no-guest-runs guests g v (Asks h wish) past there = refl
no-guest-runs guests g v (Fails c) past there = refl

no-guest-asks : (guests : List Left) (g : ℕ) (w : Work) → length guests ≤ g → HasGuest guests w → wish_of g w ≡ []
no-guest-asks guests g (Runs h u n) past there = refl
no-guest-asks guests g (Asks h asked) past there = ap (λ (b : Bool). if b then asked ∷ [] else []) (ne_eqb h g (λ e. absurd (let l = get-below guests h there.0 there.1 in omega (arith, l, e, past))))
no-guest-asks guests g (Fails c) past there = refl

no-either : (b : Bool) → ◌≡◌ {A = List Wish} (if b then [] else []) []
no-either true = refl
no-either false = refl

-- what the items of a processor share out is what all items of the plan say of that processor
shares-steps : (p g v : ℕ) (plan : List Planned) (outcomes : List Outcome) → shares (steps_each p g v) p plan outcomes ≡ sliced_steps p g v plan outcomes
shares-steps p g v [] [] = refl
shares-steps p g v [] (o ∷ outcomes) = refl
shares-steps p g v (i ∷ plan) [] = refl
shares-steps p g v (i ∷ plan) (Slice s ∷ outcomes) = (λ k. one (i.processor == p) (runs_of g v i.work) s.steps k + shares-steps p g v plan outcomes k)
  where
    one : (b c : Bool) (n : ℕ) → (if b then cond (b && c) n 0 else 0) ≡ (if b && c then n else 0)
    one true true n = refl
    one true false n = refl
    one false c n = refl
shares-steps p g v (i ∷ plan) (Asked ∷ outcomes) = (λ k. none (i.processor == p) k + shares-steps p g v plan outcomes k)
  where
    none : (b : Bool) → (if b then 0 else 0) ≡ zero
    none true = refl
    none false = refl
shares-steps p g v (i ∷ plan) (Failure f ∷ outcomes) = (λ k. none (i.processor == p) k + shares-steps p g v plan outcomes k)
  where
    none : (b : Bool) → (if b then 0 else 0) ≡ zero
    none true = refl
    none false = refl

-- each failure was made, for each guest
areas : (guests : List Left) (plan : List Planned) (tolds : List (List SidedNote)) → ((c g : ℕ) (guest : Left) → slice_get guests g ≡ Some guest → 0 < count_by (is_fail_of c) plan → OnlyMade c g plan tolds) → AreMade guests plan tolds
areas guests [] tolds only = tt
areas guests (i ∷ plan) [] only = tt
areas guests (i ∷ plan) (t ∷ tolds) only = (
  λ c is g guest at. (only c g guest at (let k = count-cons (is_fail_of c) i plan in let one = ap (λ (b : Bool). cond b (suc 0) 0) is in omega (arith, k, one))).0 is,
  areas guests plan tolds (λ c g guest at some. (only c g guest at (let k = count-cons (is_fail_of c) i plan in omega (arith, k, some))).1),
)

-- ---- the whole

-- the laws of runs
pub record Laws : Type 0 where
  pub dead : (b : Boot) (journal : List Event) (t : GuestState) (c : ℕ) → Run (start b) journal t → failures_in c journal ≡ once_if (is_dead t c)
  pub ended : (b : Boot) (journal : List Event) (t : GuestState) (c : ℕ) → Run (start b) journal t → EndsAs t (end_by c) → is_dead t c ≡ true

module _ (laws : Laws) (m : Machine) (plan : List Planned) (tokens : List Token) (queues : List (List Outcome)) (guests : List Left) (seats : List Seat) (x : Leftover m plan tokens queues guests seats) where
  abbrev outcomes : List Outcome
  outcomes = dealt plan queues

  abbrev count : ℕ
  count = length tokens

  places : Every (IsPlace count guests) plan
  places = every-all (IsPlace count guests) plan x.places

  all-told : AllTold m count plan queues (notes_at tokens)
  all-told p few = let there = get-there tokens p few in subst (AreTold m (own p plan) (queue_of queues p)) (sym (notes_at-is tokens p there.0 there.1)) (x.told p there.0 there.1)

  cut : Dealt m count plan outcomes (notes_at tokens)
  cut = deals m count plan queues (notes_at tokens) x.queues_are (every-of (IsPlace count guests) (λ (i : Planned). i.processor < count) plan (λ i place. place.on) places) all-told

  abbrev tolds : List (List SidedNote)
  tolds = cut.tolds

  -- the notes of a processor in a guest's seat are those of the guest in what the processor was told
  same-notes : (p g : ℕ) (guest : Left) → (left : HasLeft m count g guest seats) → p < count → with_side p left.seat.notes ≡ with_side g (own_notes p plan tolds)
  same-notes p g guest left few =
      let there = get-there tokens p few in
      let step : IsInStep there.0 left.seat = all-get (IsInStep there.0) seats g left.seat (all-get (λ (t : Token). All (IsInStep t) seats) tokens p there.0 x.in_step there.1) left.there in
      ap (λ n. with_side n left.seat.notes) (sym (x.numbers p there.0 there.1)) ∙ sym step ∙ ap (λ n. with_side n there.0.notes) left.number ∙ ap (with_side g) (sym (notes_at-is tokens p there.0 there.1)) ∙ ap (with_side g) (cut.notes_are p few)

  sides-of : (g : ℕ) (guest : Left) → (left : HasLeft m count g guest seats) → Every (λ (n : SidedNote). n.side < count) left.seat.notes
  sides-of g guest left = every-all (λ (n : SidedNote). n.side < count) left.seat.notes left.sides

  past-notes : (p g : ℕ) (guest : Left) → (left : HasLeft m count g guest seats) → count ≤ p → with_side p left.seat.notes ≡ []
  past-notes p g guest left past = with_side-past p count left.seat.notes past (sides-of g guest left)

  agrees : (g : ℕ) (guest : Left) → slice_get guests g ≡ Some guest → Agrees m guest
  agrees g guest at =
      let left = x.left g guest at in record {
        ended = λ c so. laws.ended left.boot guest.journal guest.state c left.run so;
        dead = λ c. laws.dead left.boot guest.journal guest.state c left.run;
        cells = left.cells;
      }

  holds : AllOf (λ guest p notes. Holds guest notes) count guests plan tolds
  holds p g guest few at =
      let left = x.left g guest at in
      subst (Holds guest) (same-notes p g guest left few) (every-side (HoldsOf guest.state) p left.seat.notes (every-all (λ (n : SidedNote). HoldsOf guest.state n.note) left.seat.notes left.noted.holds))

  order : AllOf InOrder count guests plan tolds
  order p g guest few at =
      let left = x.left g guest at in
      subst (InOrder guest p) (same-notes p g guest left few) (order-side guest p left.seat.notes left.noted.ordered)

  -- ---- failures

  -- where a cell is dead for a guest, some item made its failure
  some-made : (c g : ℕ) (guest : Left) → slice_get guests g ≡ Some guest → is_dead guest.state c ≡ true → 0 < all_tally (of_entry (is_failure c)) g tolds
  some-made c g guest at dead =
      let left = x.left g guest at in
      let once = (agrees g guest at).dead c ∙ ap once_if dead in
      let told = failures-told c guest.journal left.seat.notes left.noted.made in
      let found = find-side (of_entry (is_failure c)) left.seat.notes (omega (arith, once, told)) in
      let few : found.0.side < count = in-every (λ (n : SidedNote). n.side < count) left.seat.notes found.0 found.2 (sides-of g guest left) in
      let here = ap (tally (of_entry (is_failure c))) (same-notes found.0.side g guest left few) in
      let most = own-most (of_entry (is_failure c)) found.0.side g plan tolds in
      let some = found.3 in
      omega (arith, some, here, most)

  -- an item that is the failure of a cell tells that it is dead for each guest
  dead-by : (plan : List Planned) (outcomes : List Outcome) (tolds : List (List SidedNote)) → Certs m plan outcomes tolds → Every (IsPlace count guests) plan → AllOf (λ guest p notes. Holds guest notes) count guests plan tolds → (c g : ℕ) (guest : Left) → slice_get guests g ≡ Some guest → 0 < count_by (is_fail_of c) plan → is_dead guest.state c ≡ true
  dead-by [] outcomes tolds certs places holds c g guest at some = absurd (let none : count_by (is_fail_of c) [] ≡ 0 = refl in omega (arith, some, none))
  dead-by (i ∷ plan) [] tolds certs places holds c g guest at some = absurd certs
  dead-by (i ∷ plan) (o ∷ outcomes) [] certs places holds c g guest at some = absurd certs
  dead-by (i ∷ plan) (o ∷ outcomes) (t ∷ tolds) certs places holds c g guest at some = by (λ l. dead-by plan outcomes tolds certs.1 places.1 (holds-rest count guests i plan t tolds holds) c g guest at l) (fails_of c i.work) refl
    where
      first : (w : Work) → i.work ≡ w → fails_of c w ≡ true → is_dead guest.state c ≡ true
      first (Runs h u n) e is = absurd cc
      first (Asks h wish) e is = absurd cc
      first (Fails d) e is = one d e is o (subst (λ (w : Work). IsToldWork m i w o t) e certs.0)
        where
          one : (d : ℕ) → i.work ≡ Fails d → (d == c) ≡ true → (o : Outcome) → IsToldWork m i (Fails d) o t → is_dead guest.state c ≡ true
          one d e is (Slice s) r = absurd r
          one d e is Asked r = absurd r
          one d e is (Failure f) r =
              let below = get-below guests g guest at in
              let fate = fate-get f.cell 0 g r.fates t r.are (omega (arith, r.all, x.many, below)) in
              let here = holds-first count guests i plan t tolds places.0.on holds g guest at in
              let dead = dead-told m guest f.cell fate.0 (with_side (0 + g) t) (agrees g guest at) fate.2 (subst (λ (j : ℕ). Holds guest (with_side j t)) (let z : g ≡ 0 + g = omega arith in z) here) in
              subst (λ (k : ℕ). is_dead guest.state k ≡ true) (r.cell_is ∙ eqb-true d c is) dead

      by : (0 < count_by (is_fail_of c) plan → is_dead guest.state c ≡ true) → (b : Bool) → fails_of c i.work ≡ b → is_dead guest.state c ≡ true
      by rest true is = first i.work refl is
      by rest false is =
          let k = count-cons (is_fail_of c) i plan in
          let none = ap (λ (b : Bool). cond b (suc 0) 0) is in
          rest (omega (arith, k, none, some))

  due-failed : (g c : ℕ) → g < length guests → failures_in c (journal_of guests g) ≡ count_by (is_fail_of c) plan
  due-failed g c few =
      let there = get-there guests g few in
      ap (failures_in c) (journal-at guests g there.0 there.1) ∙ (agrees g there.0 there.1).dead c ∙ both (is_dead there.0.state c) there.0 refl there.1
    where
      both : (b : Bool) → (guest : Left) → is_dead guest.state c ≡ b → slice_get guests g ≡ Some guest → once_if b ≡ count_by (is_fail_of c) plan
      both true guest dead at = let some = some-fail m c g plan outcomes tolds cut.certs (some-made c g guest at dead) in let few = x.once c in omega (arith, some, few)
      both false guest alive at = none (count_by (is_fail_of c) plan) refl
        where
          none : (n : ℕ) → count_by (is_fail_of c) plan ≡ n → once_if false ≡ count_by (is_fail_of c) plan
          none zero e = sym e
          none (suc n) e = absurd (let dead = dead-by plan outcomes tolds cut.certs places holds c g guest at (omega (arith, e)) in let no : true ≡ false = sym dead ∙ alive in cc)

  made : AreMade guests plan tolds
  made = areas guests plan tolds (λ c g guest at some. only-made m guests c plan outcomes tolds cut.certs (x.once c) g (some-made c g guest at (dead-by plan outcomes tolds cut.certs places holds c g guest at some)))

  -- ---- what is counted

  kind-at : (kind : Event → Bool) (p g : ℕ) (guest : Left) → (left : HasLeft m count g guest seats) → ((e : Event) → cond (kind e) 1 0 ≡ tally (of_entry kind) (with_side p (noted_by e))) → count_by kind guest.journal ≡ tally (of_entry kind) (with_side p left.seat.notes)
  kind-at kind p g guest left told = count-told p kind guest.journal left.seat.notes told (made-noted guest.journal left.seat.notes (every-all IsOwn left.seat.notes left.noted.own) left.noted.made)

  no-runs : (p g v : ℕ) → length guests ≤ g → Every (λ (i : Planned). is_run_of p g v i ≡ false) plan
  no-runs p g v past = every-of (IsPlace count guests) (λ (i : Planned). is_run_of p g v i ≡ false) plan (λ i place. ap (λ (b : Bool). (i.processor == p) && b) (no-guest-runs guests g v i.work past place.guest) ∙ off-right (i.processor == p)) places

  no-processor-runs : (p g v : ℕ) → count ≤ p → Every (λ (i : Planned). is_run_of p g v i ≡ false) plan
  no-processor-runs p g v past = every-of (IsPlace count guests) (λ (i : Planned). is_run_of p g v i ≡ false) plan (λ i place. other-processor count p guests (runs_of g v) i past place) places

  due-steps : (p g v : ℕ) → steps_in p v (journal_of guests g) ≡ sliced_steps p g v plan outcomes
  due-steps p g v = elim (side g (length guests)) [
    | inr past ↦ ap (steps_in p v) (journal-past guests g past) ∙ sym (past-steps p g v plan outcomes (no-runs p g v past))
    | inl within ↦ (
        let there = get-there guests g within in
        let left = x.left g there.0 there.1 in
        let here = ap (steps_in p v) (journal-at guests g there.0 there.1) ∙ kind-at (is_step_of p v) p g there.0 left (steps-told p v) in
        elim (side p count) [
          | inl few ↦ here ∙ ap (tally (of_entry (is_step_of p v))) (same-notes p g there.0 left few) ∙ shares-told m (of_entry (is_step_of p v)) g (steps_each p g v) (item-steps m p g v) p plan outcomes tolds cut.certs ∙ shares-steps p g v plan outcomes
          | inr past ↦ here ∙ ap (tally (of_entry (is_step_of p v))) (past-notes p g there.0 left past) ∙ sym (past-steps p g v plan outcomes (no-processor-runs p g v past))
        ])
  ]

  due-loads : (p g v : ℕ) → loads_in p v (journal_of guests g) ≤ count_by (is_run_of p g v) plan
  due-loads p g v = elim (side g (length guests)) [
    | inr past ↦ (let none = ap (loads_in p v) (journal-past guests g past) in omega (arith, none))
    | inl within ↦ (
        let there = get-there guests g within in
        let left = x.left g there.0 there.1 in
        let here = ap (loads_in p v) (journal-at guests g there.0 there.1) ∙ kind-at (is_load_of p v) p g there.0 left (loads-told p v) in
        elim (side p count) [
          | inl few ↦ (let all = here ∙ ap (tally (of_entry (is_load_of p v))) (same-notes p g there.0 left few) in let most = shares-most m (of_entry (is_load_of p v)) g (λ (i : Planned). runs_of g v i.work) (item-loads m p g v) p plan outcomes tolds cut.certs in omega (arith, all, most))
          | inr past ↦ (let none = here ∙ ap (tally (of_entry (is_load_of p v))) (past-notes p g there.0 left past) in omega (arith, none))
        ])
  ]

  due-unloaded : (g : ℕ) → AreUnloaded (journal_of guests g)
  due-unloaded g = elim (side g (length guests)) [
    | inr past ↦ subst AreUnloaded (sym (journal-past guests g past)) tt
    | inl within ↦ (
        let there = get-there guests g within in
        let left = x.left g there.0 there.1 in
        subst AreUnloaded (sym (journal-at guests g there.0 there.1)) (unloaded there.0.journal left.seat.notes
        (made-noted there.0.journal left.seat.notes (every-all IsOwn left.seat.notes left.noted.own) left.noted.made)
        (λ q. elim (side q count) [
          | inl few ↦ ap (loaded_by None) (same-notes q g there.0 left few) ∙ free-told m g (item-free m g) q plan outcomes tolds cut.certs
          | inr past ↦ ap (loaded_by None) (past-notes q g there.0 left past)
        ])))
  ]

  due-asked : (p g : ℕ) → wishes_by p (skips_of guests g) (journal_of guests g) ≡ wishes_for p g plan
  due-asked p g = elim (side g (length guests)) [
    | inr past ↦ (λ i. wishes_by p (skips-past guests g past i) (journal-past guests g past i))
        ∙ sym (no-wishes p g plan (every-of (IsPlace count guests) (λ (i : Planned). (if i.processor == p then wish_of g i.work else []) ≡ []) plan (λ i place. ap (λ (l : List Wish). if i.processor == p then l else []) (no-guest-asks guests g i.work past place.guest) ∙ no-either (i.processor == p)) places))
    | inl within ↦ (
        let there = get-there guests g within in
        let left = x.left g there.0 there.1 in
        let here : wishes_by p (skips_of guests g) (journal_of guests g) ≡ wishes_in (with_side p left.seat.notes) =
        (λ i. wishes_by p (skips-at guests g there.0 there.1 i) (journal-at guests g there.0 there.1 i)) ∙ noted-wishes p there.0.state.skips there.0.journal left.seat.notes left.noted.asked in
        elim (side p count) [
          | inl few ↦ here ∙ ap wishes_in (same-notes p g there.0 left few) ∙ own-wishes m p g plan outcomes tolds cut.certs
          | inr past ↦ here ∙ ap wishes_in (past-notes p g there.0 left past)
              ∙ sym (no-wishes p g plan (every-of (IsPlace count guests) (λ (i : Planned). (if i.processor == p then wish_of g i.work else []) ≡ []) plan (λ i place. ap (λ (b : Bool). if b then wish_of g i.work else []) (ne_eqb i.processor p (λ e. absurd (let l = place.on in omega (arith, l, e, past))))) places))
        ])
  ]

  pub is-due : IsDue m plan guests outcomes
  is-due = record {
    done = all-done m count guests x.many agrees plan outcomes tolds cut.certs places holds made;
    ordered = all-ordered m count guests agrees plan outcomes tolds cut.certs places made order;
    steps = due-steps;
    loads = due-loads;
    unloaded = due-unloaded;
    asked = due-asked;
    failed = due-failed;
  }

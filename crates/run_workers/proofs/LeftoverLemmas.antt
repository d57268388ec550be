-- What workers and guests leave is what a plan's record is due by.
use Rattle.std.proofs.Common.{◌≡◌, ℕ, zero, suc, ◌+◌, ◌<◌, ◌≤◌, cond, List, [], ◌∷◌, length, All, refl, sym, ap, ◌∙◌, subst, arith, Some, count_by}
use Rattle.std.specs.Prelude.{slice_get}
use Rattle.std.proofs.lemmas.List.Elements.{All-nil, All-cons}
use Rattle.std.proofs.lemmas.List.Sums.{sum_by-cons}
use Rattle.atomic_table.specs.Seated.{TableId}
use Rattle.shootdown.specs.declared.view.SidedNote.{SidedNote}
use Rattle.shootdown.specs.Notes.{Seat}
use Rattle.isolation_law.specs.GuestState.{GuestState}
use Rattle.isolation_law.specs.Run.{Run as Runs}
use Rattle.isolation_law.specs.Start.{Boot, start}
use Rattle.isolation_law.specs.Surroundings.{Surroundings, cell_of_processor}
use Rattle.machine_desc.specs.declared.plan.Item.{Item}
use Rattle.machine_desc.specs.declared.plan.Item.TheVariants.{Run, Move, Fail}
use Rattle.wire_queue.specs.Between.{Made}
use Rattle.wire_queue.specs.declared.lists.PassList.{PassList}
use Rattle.guest_core.specs.Noting.{IsNoted}
use Rattle.guest_core.specs.declared.records.GuestRecord.{GuestRecord}
use Rattle.plan_due.specs.Planned.{Planned, planned_as, planned, is_fail_of}
use Rattle.plan_due.specs.PlanDue.{Left}
use Rattle.plan_due.specs.Leftover.{IsPlace, HasLeft}
use Rattle.run_workers.specs.Working.{cell_in, machine_of, ItemFits, IsOn}
use Rattle.run_workers.specs.WholeRecord.{lefts_of}
use Rattle.run_workers.specs.Ending.{AreLeft, AllTold}
use Rattle.run_workers.proofs.WholeLemmas.{get-index, all-get, get-there, at-place, state-count}
use Rattle.machine_desc.specs.Bounds.{item_fails}

-- ---- guests at the end

lefts-count : (states : List GuestState) (lefts : List GuestRecord) → length states ≡ length lefts → length (lefts_of states lefts) ≡ length lefts
lefts-count [] [] same = refl
lefts-count [] (r ∷ lefts) same = absurd (omega (arith, same))
lefts-count (s ∷ states) [] same = absurd (omega (arith, same))
lefts-count (s ∷ states) (r ∷ lefts) same = ap suc (lefts-count states lefts (omega (arith, same)))

record LeftAt (states : List GuestState) (lefts : List GuestRecord) (g : ℕ) (guest : Left) : Type 0 where
  pub state_is : slice_get states g ≡ Some guest.state
  pub few : g < length lefts
  pub left : GuestRecord
  pub left_is : slice_get lefts g ≡ Some left
  pub journal_is : left.journal.entries ≡ guest.journal

left-here : (states : List GuestState) (lefts : List GuestRecord) (g : ℕ) (guest : Left) → slice_get (lefts_of states lefts) g ≡ Some guest → LeftAt states lefts g guest
left-here [] lefts g guest e = absurd cc
left-here (s ∷ states) [] g guest e = absurd cc
left-here (s ∷ states) (r ∷ lefts) zero guest e =
    let same : ◌≡◌ {A = Left} (record { state = s; journal = r.journal.entries }) guest = cc in
    record { state_is = ap (λ (x : Left). Some x.state) same; few = omega arith; left = r; left_is = refl; journal_is = ap (λ (x : Left). x.journal) same }
left-here (s ∷ states) (r ∷ lefts) (suc g) guest e =
    let at = left-here states lefts g guest e in
    record { state_is = at.state_is; few = omega (arith, at.few); left = at.left; left_is = at.left_is; journal_is = at.journal_is }

some-same : {A : Type 0} (x y : A) → Some x ≡ Some y → x ≡ y
some-same x y e = cc

-- a guest's surroundings are those of its start
around-at : (starts : List Boot) (wires : Made) (k i : ℕ) (states : List GuestState) (lefts : List GuestRecord) (lists : List PassList) (s : GuestState) → AllTold starts wires k states lefts lists → slice_get states i ≡ Some s → (b : Boot) × (slice_get starts (k + i) ≡ Some b) × (s.around ≡ b.around)
around-at starts wires k i [] lefts lists s told at = absurd cc
around-at starts wires k i (t ∷ states) [] lists s told at = absurd told
around-at starts wires k i (t ∷ states) (r ∷ lefts) [] s told at = absurd told
around-at starts wires k zero (t ∷ states) (r ∷ lefts) (l ∷ lists) s told at =
    let same : t ≡ s = cc in
    (told.0.0, subst (λ (n : ℕ). slice_get starts n ≡ Some told.0.0) (let e : k ≡ k + 0 = omega arith in e) told.0.1, ap (λ (x : GuestState). x.around) (sym same) ∙ told.0.2.around)
around-at starts wires k (suc i) (t ∷ states) (r ∷ lefts) (l ∷ lists) s told at =
    let rest = around-at starts wires (k + 1) i states lefts lists s told.1 at in
    (rest.0, subst (λ (n : ℕ). slice_get starts n ≡ Some rest.0) (let e : k + 1 + i ≡ k + suc i = omega arith in e) rest.1, rest.2)

pub has-left : (starts : List Boot) (board : TableId) (wires : Made) (count : ℕ) (states : List GuestState) (lefts : List GuestRecord) (lists : List PassList) (seats : List Seat) → AreLeft starts board 0 states lefts seats → AllTold starts wires 0 states lefts lists
    → All (λ (b : Boot). length b.around.processors ≡ count) starts → ((g : ℕ) (b : Boot) → slice_get starts g ≡ Some b → (p : ℕ) → cell_of_processor b.around p ≡ cell_in starts p)
    → (g : ℕ) (guest : Left) → slice_get (lefts_of states lefts) g ≡ Some guest → HasLeft (machine_of starts) count g guest seats
has-left starts board wires count states lefts lists seats are told processors cells g guest at =
    let here = left-here states lefts g guest at in
    let left = at-place starts board g states lefts seats are here.few in
    let state : left.state ≡ guest.state = some-same left.state guest.state (sym left.state_is ∙ here.state_is) in
    let journal : left.left.journal.entries ≡ guest.journal = ap (λ (r : GuestRecord). r.journal.entries) (some-same left.left here.left (sym left.left_is ∙ here.left_is)) ∙ here.journal_is in
    let around = around-at starts wires 0 g states lefts lists guest.state told here.state_is in
    record {
      boot = left.start;
      seat = left.seat;
      there = left.seat_is;
      number = left.leaves.number_is;
      run = subst (λ (s : GuestState). Runs (start left.start) guest.journal s) state (subst (λ (j : List _). Runs (start left.start) j left.state) journal left.leaves.record_is.run);
      noted = subst (λ (s : GuestState). IsNoted s guest.journal left.seat.notes) state (subst (λ (j : List _). IsNoted left.state j left.seat.notes) journal left.leaves.notes);
      sides = subst (λ (n : ℕ). All (λ (x : SidedNote). x.side < n) left.seat.notes) (all-get (λ (b : Boot). length b.around.processors ≡ count) starts g left.start processors left.start_is) left.leaves.sides;
      cells = λ p. ap (λ (w : Surroundings). cell_of_processor w p) around.2 ∙ cells g around.0 (subst (λ (n : ℕ). slice_get starts n ≡ Some around.0) (let e : 0 + g ≡ g = omega arith in e) around.1) p;
    }

-- ---- items

pub all-places : (starts : List Boot) (count : ℕ) (guests : List Left) (k : ℕ) (items : List Item) → length guests ≡ length starts → All (ItemFits starts) items → All (IsOn count) items → All (IsPlace count guests) (planned k items)
all-places starts count guests k [] same places on = All-nil (IsPlace count guests)
all-places starts count guests k (item ∷ items) same places on =
    All-cons (IsPlace count guests) (planned_as k item) (planned (suc k) items) (by item (places 0 item (omega arith)) (on 0 item (omega arith)))
    (all-places starts count guests (suc k) items same (λ i d l. places (suc i) d (omega (arith, l))) (λ i d l. on (suc i) d (omega (arith, l))))
  where
    by : (item : Item) → ItemFits starts item → IsOn count item → IsPlace count guests (planned_as k item)
    by (Run p g v steps) place is =
        let few = (get-index starts g.0 place.start place.start place.named).0 in
        record { on = is; guest = get-there guests g.0 (omega (arith, few, same)) }
    by (Move p g page kind node) place is =
        let few = (get-index starts g.0 place.start place.start place.named).0 in
        record { on = is; guest = get-there guests g.0 (omega (arith, few, same)) }
    by (Fail p cell) place is = record { on = is; guest = tt }

-- as many items fail a cell in the plan as in its numbered items
failures-count : (c k : ℕ) (items : List Item) → count_by (is_fail_of c) (planned k items) ≡ count_by (item_fails c) items
failures-count c k [] = refl
failures-count c k (item ∷ items) = by item (failures-count c (suc k) items)
  where
    by : (item : Item) → count_by (is_fail_of c) (planned (suc k) items) ≡ count_by (item_fails c) items → count_by (is_fail_of c) (planned_as k item ∷ planned (suc k) items) ≡ count_by (item_fails c) (item ∷ items)
    by item rest =
        let left = sum_by-cons (λ (x : Planned). cond {A = ℕ} (is_fail_of c x) 1 0) (planned_as k item) (planned (suc k) items) in
        let right = sum_by-cons (λ (x : Item). cond {A = ℕ} (item_fails c x) 1 0) item items in
        left ∙ (λ i. cond {A = ℕ} (same item i) 1 0 + rest i) ∙ sym right
      where
        same : (x : Item) → is_fail_of c (planned_as k x) ≡ item_fails c x
        same (Run p g v steps) = refl
        same (Move p g page kind node) = refl
        same (Fail p cell) = refl

pub fails-once : (items : List Item) → ((c : ℕ) → count_by (item_fails c) items ≤ 1) → (c : ℕ) → count_by (is_fail_of c) (planned 0 items) ≤ 1
fails-once items once c = subst (λ (n : ℕ). n ≤ 1) (sym (failures-count c 0 items)) (once c)

pub guest-count : (starts : List Boot) (board : TableId) (states : List GuestState) (lefts : List GuestRecord) (seats : List Seat) → AreLeft starts board 0 states lefts seats → length lefts ≡ length starts → length (lefts_of states lefts) ≡ length starts
guest-count starts board states lefts seats are same = lefts-count states lefts (state-count starts board 0 states lefts seats are) ∙ same

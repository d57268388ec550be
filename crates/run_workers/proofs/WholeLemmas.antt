-- What each guest of a run left, by its number.
use Rattle.std.proofs.Common.{◌≡◌, ℕ, zero, suc, ◌+◌, ◌<◌, ◌≤◌, ◌⊎◌, List, [], ◌∷◌, length, All, refl, ap, subst, arith, Some}
use Rattle.std.specs.Prelude.{slice_get, slice_index_or}
use Rattle.atomic_table.specs.Seated.{TableId}
use Rattle.shootdown.specs.Notes.{Seat}
use Rattle.isolation_law.specs.GuestState.{GuestState}
use Rattle.isolation_law.specs.Start.{Boot}
use Rattle.guest_core.specs.declared.records.GuestRecord.{GuestRecord}
use Rattle.run_workers.specs.Ending.{Leaves, AreLeft}

-- ---- lists by their places

pub get-index : {A : Type 0} (xs : List A) (i : ℕ) (x d : A) → slice_get xs i ≡ Some x → (i < length xs) × (slice_index_or xs i d ≡ x)
get-index [] i x d e = absurd cc
get-index (y ∷ ys) zero x d e = (omega arith, cc)
get-index (y ∷ ys) (suc i) x d e = let r = get-index ys i x d e in (omega (arith, r.0), r.1)

pub all-get : {A : Type 0} (P : A → Type 0) (xs : List A) (i : ℕ) (x : A) → All P xs → slice_get xs i ≡ Some x → P x
all-get P xs i x all e = let at = get-index xs i x x e in subst P at.1 (all i x at.0)

pub get-there : {A : Type 0} (xs : List A) (i : ℕ) → i < length xs → (x : A) × (slice_get xs i ≡ Some x)
get-there [] i l = absurd (let m : i < 0 = l in omega arith)
get-there (x ∷ xs) zero l = (x, refl)
get-there (x ∷ xs) (suc i) l = get-there xs i (omega arith)

pub side : (a b : ℕ) → (a < b) ⊎ (b ≤ a)
side a b = grind arith

-- ---- what a guest left

pub record At (starts : List Boot) (board : TableId) (number i : ℕ) (states : List GuestState) (lefts : List GuestRecord) (seats : List Seat) : Type 0 where
  pub start : Boot
  pub state : GuestState
  pub left : GuestRecord
  pub seat : Seat
  pub start_is : slice_get starts number ≡ Some start
  pub state_is : slice_get states i ≡ Some state
  pub left_is : slice_get lefts i ≡ Some left
  pub seat_is : slice_get seats i ≡ Some seat
  pub leaves : Leaves start board number state left seat

deeper : (starts : List Boot) (board : TableId) (number i : ℕ) (s : GuestState) (states : List GuestState) (l : GuestRecord) (lefts : List GuestRecord) (t : Seat) (seats : List Seat) → At starts board number i states lefts seats → At starts board number (suc i) (s ∷ states) (l ∷ lefts) (t ∷ seats)
deeper starts board number i s states l lefts t seats at = record {
  start = at.start;
  state = at.state;
  left = at.left;
  seat = at.seat;
  start_is = at.start_is;
  state_is = at.state_is;
  left_is = at.left_is;
  seat_is = at.seat_is;
  leaves = at.leaves;
}

left-at : (starts : List Boot) (board : TableId) (k i : ℕ) (states : List GuestState) (lefts : List GuestRecord) (seats : List Seat) → AreLeft starts board k states lefts seats → i < length lefts → At starts board (k + i) i states lefts seats
left-at starts board k i [] [] [] are l = absurd (let m : i < 0 = l in omega arith)
left-at starts board k i [] [] (t ∷ seats) are l = absurd are
left-at starts board k i [] (r ∷ lefts) seats are l = absurd are
left-at starts board k i (s ∷ states) [] seats are l = absurd are
left-at starts board k i (s ∷ states) (r ∷ lefts) [] are l = absurd are
left-at starts board k zero (s ∷ states) (r ∷ lefts) (t ∷ seats) are l = subst (λ n. At starts board n 0 (s ∷ states) (r ∷ lefts) (t ∷ seats)) (let n : k ≡ k + 0 = omega arith in n) (record {
  start = are.0.0;
  state = s;
  left = r;
  seat = t;
  start_is = are.0.1;
  state_is = refl;
  left_is = refl;
  seat_is = refl;
  leaves = are.0.2;
})
left-at starts board k (suc i) (s ∷ states) (r ∷ lefts) (t ∷ seats) are l = subst (λ n. At starts board n (suc i) (s ∷ states) (r ∷ lefts) (t ∷ seats)) (let n : k + 1 + i ≡ k + suc i = omega arith in n) (deeper starts board (k + 1 + i) i s states r lefts t seats (left-at starts board (k + 1) i states lefts seats are.1 (omega arith)))

pub at-place : (starts : List Boot) (board : TableId) (i : ℕ) (states : List GuestState) (lefts : List GuestRecord) (seats : List Seat) → AreLeft starts board 0 states lefts seats → i < length lefts → At starts board i i states lefts seats
at-place starts board i states lefts seats are l = subst (λ n. At starts board n i states lefts seats) (let n : 0 + i ≡ i = omega arith in n) (left-at starts board 0 i states lefts seats are l)

pub state-count : (starts : List Boot) (board : TableId) (k : ℕ) (states : List GuestState) (lefts : List GuestRecord) (seats : List Seat) → AreLeft starts board k states lefts seats → length states ≡ length lefts
state-count starts board k [] [] [] are = refl
state-count starts board k [] [] (t ∷ seats) are = absurd are
state-count starts board k [] (r ∷ lefts) seats are = absurd are
state-count starts board k (s ∷ states) [] seats are = absurd are
state-count starts board k (s ∷ states) (r ∷ lefts) [] are = absurd are
state-count starts board k (s ∷ states) (r ∷ lefts) (t ∷ seats) are = ap suc (state-count starts board (k + 1) states lefts seats are.1)

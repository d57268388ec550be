-- The guests of a run, put together in their order.
use Rattle.std.proofs.Common.{◌≡◌, ℕ, zero, suc, ◌+◌, ◌≤◌, ◌<◌, min, List, [], ◌∷◌, ◌++◌, length, length-append, refl, sym, subst, Some, arith, true, false}
use Rattle.std.specs.Prelude.{slice_get, nat_lt}
use Rattle.atomic_table.specs.Seated.{TableId}
use Rattle.isolation_law.specs.Start.{Boot}
use Rattle.guest_core.specs.GuestView.{Monitored, Shared}
use Rattle.guest_lock.specs.Guests.{IsGuestOf, GuestsFrom, GuestsBelow}

pub below-none : (starts : List Boot) (board : TableId) (shared : Shared) → GuestsBelow starts board shared 0 []
below-none starts board shared = record { each = λ i g e. absurd cc; count = let e : 0 ≡ min 0 (length starts) = omega arith in e }

within : {A : Type 0} (xs : List A) (i : ℕ) (x : A) → slice_get xs i ≡ Some x → i < length xs
within [] i x e = absurd cc
within (y ∷ ys) zero x e = omega arith
within (y ∷ ys) (suc i) x e = let r = within ys i x e in omega arith

snoc_at : {A : Type 0} (P : ℕ → A → Type 0) (xs : List A) (y : A) → ((i : ℕ) (x : A) → slice_get xs i ≡ Some x → P i x) → P (length xs) y → (i : ℕ) (x : A) → slice_get (xs ++ y ∷ []) i ≡ Some x → P i x
snoc_at P [] y each last zero x e = let same : y ≡ x = cc in subst (P 0) same last
snoc_at P [] y each last (suc i) x e = absurd cc
snoc_at P (z ∷ xs) y each last zero x e = each zero x e
snoc_at P (z ∷ xs) y each last (suc i) x e = snoc_at (λ k. P (suc k)) xs y (λ k. each (suc k)) last i x e

pub below-more : (starts : List Boot) (board : TableId) (shared : Shared) (number : ℕ) (guests : List Monitored) (g : Monitored) → GuestsBelow starts board shared number guests → IsGuestOf starts board shared number g → GuestsBelow starts board shared (number + 1) (guests ++ g ∷ [])
below-more starts board shared number guests g below is =
    let few = within starts number g.start is.start_is in
    let n = length-append guests (g ∷ []) in
    let count = below.count in
    let here : length guests ≡ number = omega arith in record {
      each = snoc_at (IsGuestOf starts board shared) guests g below.each (subst (λ k. IsGuestOf starts board shared k g) (sym here) is);
      count = omega arith;
    }

past-lt : (n k : ℕ) → false ≡ nat_lt k n → n ≤ k
past-lt n k e = grind arith

pub below-same : (starts : List Boot) (board : TableId) (shared : Shared) (number : ℕ) (guests : List Monitored) → GuestsBelow starts board shared number guests → false ≡ nat_lt number (length starts) → GuestsBelow starts board shared (number + 1) guests
below-same starts board shared number guests below e =
    let past = past-lt (length starts) number e in
    let count = below.count in record { each = below.each; count = omega arith }

from : (starts : List Boot) (board : TableId) (shared : Shared) (number : ℕ) (guests : List Monitored) → ((i : ℕ) (g : Monitored) → slice_get guests i ≡ Some g → IsGuestOf starts board shared (number + i) g) → number + length guests ≡ length starts → GuestsFrom starts board shared number guests
from starts board shared number [] each count = omega arith
from starts board shared number (g ∷ guests) each count = (
  subst (λ k. IsGuestOf starts board shared k g) (let e : number + 0 ≡ number = omega arith in e) (each zero g refl),
  from starts board shared (number + 1) guests (λ i h e. subst (λ k. IsGuestOf starts board shared k h) (let e : number + suc i ≡ number + 1 + i = omega arith in e) (each (suc i) h e)) (omega arith),
)

pub below-all : (starts : List Boot) (board : TableId) (shared : Shared) (guests : List Monitored) → GuestsBelow starts board shared 8 guests → length starts ≤ 8 → GuestsFrom starts board shared 0 guests
below-all starts board shared guests below few = let count = below.count in from starts board shared 0 guests (λ i g e. subst (λ k. IsGuestOf starts board shared k g) (let e : i ≡ 0 + i = omega arith in e) (below.each i g e)) (omega arith)

lt-past : (n k : ℕ) → k < n → true ≡ nat_lt k n
lt-past n k l = grind arith

-- the first of the guests from a number on is one of the run's
pub first-there : (starts : List Boot) (board : TableId) (shared : Shared) (number : ℕ) (g : Monitored) (guests all : List Monitored) → GuestsFrom starts board shared number all → all ≡ g ∷ guests → true ≡ nat_lt number (length starts)
first-there starts board shared number g guests all from e =
    let first = subst (GuestsFrom starts board shared number) e from in
    lt-past (length starts) number (within starts number g.start first.0.start_is)

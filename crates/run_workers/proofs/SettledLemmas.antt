-- One guest more has taken all that is left for it.
use Rattle.std.proofs.Common.{◌≡◌, ◌≢◌, ◌⊎◌, ⊎_elim, inl, inr, ℕ, zero, suc, ◌+◌, ◌<◌, List, [], ◌∷◌, ◌++◌, length, remove, Some, refl, sym, ap, ◌∙◌, subst, arith}
use Rattle.std.specs.Prelude.{slice_get, slice_index_or}
use Rattle.std.proofs.lemmas.List.{append_assoc}
use Rattle.atomic_table.specs.Seated.{TableId}
use Rattle.isolation_law.specs.Start.{Boot}
use Rattle.isolation_law.specs.Surroundings.{home_cell}
use Rattle.guest_core.specs.Blocks.{blocks_of, LieOnCell}
use Rattle.guest_core.specs.GuestView.{Monitored, Shared, AreOf, IsSameGuest}
use Rattle.guest_core.specs.Holding.{FitsAround}
use Rattle.guest_core.specs.PacketCalls.{IsArmed, KeepsEnds, SameSends}
use Rattle.guest_lock.specs.Guests.{IsGuestOf, GuestsFrom}
use Rattle.run_workers.specs.Draining.{HasNone, HasAllOf, HasAll, Receives, AreKept, AreOthers, AreDrained}
use Rattle.run_workers.proofs.DrainLemmas.{within, has-still, sends-of, receives-kept}

-- ---- places in a list around one of its elements

abbrev IsPlace : List Monitored → Monitored → List Monitored → ℕ → Monitored → Type 0
IsPlace xs y ys j h = ((j < length xs) × (slice_get xs j ≡ Some h)) ⊎ (((j ≡ length xs) × (y ≡ h)) ⊎ ((k : ℕ) × (j ≡ length xs + 1 + k) × (slice_get ys k ≡ Some h)))

place-of : (xs : List Monitored) (y : Monitored) (ys : List Monitored) (j : ℕ) (h : Monitored) → slice_get (xs ++ y ∷ ys) j ≡ Some h → IsPlace xs y ys j h
place-of [] y ys zero h e = inr (inl (refl, cc))
place-of [] y ys (suc j) h e = inr (inr (j, omega arith, e))
place-of (x ∷ xs) y ys zero h e = inl (omega arith, e)
place-of (x ∷ xs) y ys (suc j) h e = ⊎_elim
    (λ p. inl (omega (arith, p.0), p.1))
    (λ q. inr (⊎_elim (λ p. inl (ap suc p.0, p.1)) (λ p. inr (p.0, omega (arith, p.1), p.2)) q))
    (place-of xs y ys j h e)

at-left : (xs ys : List Monitored) (j : ℕ) (h : Monitored) → slice_get xs j ≡ Some h → slice_get (xs ++ ys) j ≡ Some h
at-left [] ys j h e = absurd cc
at-left (x ∷ xs) ys zero h e = e
at-left (x ∷ xs) ys (suc j) h e = at-left xs ys j h e

at-mid : (xs : List Monitored) (y : Monitored) (ys : List Monitored) → slice_get (xs ++ y ∷ ys) (length xs) ≡ Some y
at-mid [] y ys = refl
at-mid (x ∷ xs) y ys = at-mid xs y ys

at-right : (xs : List Monitored) (y : Monitored) (ys : List Monitored) (j k : ℕ) (h : Monitored) → j ≡ length xs + 1 + k → slice_get ys k ≡ Some h → slice_get (xs ++ y ∷ ys) j ≡ Some h
at-right [] y ys zero k h is e = absurd (omega (arith, is))
at-right [] y ys (suc j) k h is e = ap (slice_get ys) (let m : j ≡ k = omega (arith, is) in m) ∙ e
at-right (x ∷ xs) y ys zero k h is e = absurd (omega (arith, is))
at-right (x ∷ xs) y ys (suc j) k h is e = at-right xs y ys j k h (omega (arith, is)) e

-- ---- the guests stay the run's

-- what guests share stays the same
pub are-of : (shared : Shared) (g h : Monitored) → IsSameGuest g h → AreOf shared g → AreOf shared h
are-of shared g h same are = record {
  table = record { made = same.table ∙ are.table.made; fits = subst (λ (b : Boot). FitsAround shared.table b.around) (sym same.start) are.table.fits };
  wires = same.wires ∙ are.wires;
  blocks = subst (λ (b : Boot). LieOnCell b.around (home_cell b.around) (blocks_of shared.indexes (home_cell b.around))) (sym same.start) are.blocks;
}

is-guest : (starts : List Boot) (board : TableId) (shared : Shared) (k : ℕ) (g h : Monitored) → IsGuestOf starts board shared k g → Receives g h → IsGuestOf starts board shared k h
is-guest starts board shared k g h is r = record {
  number_is = r.same.number ∙ is.number_is;
  start_is = is.start_is ∙ ap Some (sym r.same.start);
  board_is = r.same.board ∙ is.board_is;
  shared_is = are-of shared g h r.same is.shared_is;
  own_is = ap (λ n. n.0) r.same.own ∙ is.own_is;
  goes_on = λ e. is.goes_on (sym r.end ∙ e);
}

rest-kept : (g h : Monitored) (gs hs : List Monitored) → AreKept (g ∷ gs) (h ∷ hs) → AreKept gs hs
rest-kept g h gs hs are = record { count = omega (arith, are.count); each = λ i a b at end. are.each (suc i) a b at end }

from-kept : (starts : List Boot) (board : TableId) (shared : Shared) (k : ℕ) (gs hs : List Monitored) → AreKept gs hs → GuestsFrom starts board shared k gs → GuestsFrom starts board shared k hs
from-kept starts board shared k [] [] are from = from
from-kept starts board shared k [] (h ∷ hs) are from = absurd (omega (arith, are.count))
from-kept starts board shared k (g ∷ gs) [] are from = absurd (omega (arith, are.count))
from-kept starts board shared k (g ∷ gs) (h ∷ hs) are from =
    (is-guest starts board shared k g h from.0 (receives-kept g h (are.each 0 g h refl refl)), from-kept starts board shared (k + 1) gs hs (rest-kept g h gs hs are) from.1)

pub from-next : (starts : List Boot) (board : TableId) (shared : Shared) (k : ℕ) (gs hs : List Monitored) (g h : Monitored) (xs ys : List Monitored) → AreKept gs hs → Receives g h → AreKept xs ys → GuestsFrom starts board shared k (gs ++ g ∷ xs) → GuestsFrom starts board shared k (hs ++ h ∷ ys)
from-next starts board shared k [] [] g h xs ys before is after from = (is-guest starts board shared k g h from.0 is, from-kept starts board shared (k + 1) xs ys after from.1)
from-next starts board shared k [] (b ∷ hs) g h xs ys before is after from = absurd (omega (arith, before.count))
from-next starts board shared k (a ∷ gs) [] g h xs ys before is after from = absurd (omega (arith, before.count))
from-next starts board shared k (a ∷ gs) (b ∷ hs) g h xs ys before is after from =
    (is-guest starts board shared k a b from.0 (receives-kept a b (before.each 0 a b refl refl)), from-next starts board shared (k + 1) gs hs g h xs ys (rest-kept a b gs hs before) is after from.1)

guest-at : (starts : List Boot) (board : TableId) (shared : Shared) (k : ℕ) (gs : List Monitored) (i : ℕ) (g : Monitored) → GuestsFrom starts board shared k gs → slice_get gs i ≡ Some g → IsGuestOf starts board shared (k + i) g
guest-at starts board shared k [] i g from e = absurd cc
guest-at starts board shared k (x ∷ gs) zero g from e =
    let same : x ≡ g = cc in
    subst (λ (n : ℕ). IsGuestOf starts board shared n g) (let m : k ≡ k + 0 = omega arith in m) (subst (IsGuestOf starts board shared k) same from.0)
guest-at starts board shared k (x ∷ gs) (suc i) g from e =
    subst (λ (n : ℕ). IsGuestOf starts board shared n g) (let m : k + 1 + i ≡ k + suc i = omega arith in m) (guest-at starts board shared (k + 1) gs i g from.1 e)

-- the guests around one of them
pub others-before : (starts : List Boot) (board : TableId) (shared : Shared) (gs : List Monitored) (g : Monitored) (xs : List Monitored) → GuestsFrom starts board shared 0 (gs ++ g ∷ xs) → AreOthers shared g gs
others-before starts board shared gs g xs from =
    let me = guest-at starts board shared 0 (gs ++ g ∷ xs) (length gs) g from (at-mid gs g xs) in record {
      wires = λ i h at. (guest-at starts board shared 0 (gs ++ g ∷ xs) i h from (at-left gs (g ∷ xs) i h at)).shared_is.wires;
      apart = λ i h at e.
          let it = guest-at starts board shared 0 (gs ++ g ∷ xs) i h from (at-left gs (g ∷ xs) i h at) in
          let lt = within gs i h at in
          absurd (omega (arith, lt, it.own_is, me.own_is, e));
    }

pub others-after : (starts : List Boot) (board : TableId) (shared : Shared) (gs : List Monitored) (g : Monitored) (xs : List Monitored) → GuestsFrom starts board shared 0 (gs ++ g ∷ xs) → AreOthers shared g xs
others-after starts board shared gs g xs from =
    let me = guest-at starts board shared 0 (gs ++ g ∷ xs) (length gs) g from (at-mid gs g xs) in record {
      wires = λ i h at. (guest-at starts board shared 0 (gs ++ g ∷ xs) (length gs + 1 + i) h from (at-right gs g xs (length gs + 1 + i) i h refl at)).shared_is.wires;
      apart = λ i h at e.
          let it = guest-at starts board shared 0 (gs ++ g ∷ xs) (length gs + 1 + i) h from (at-right gs g xs (length gs + 1 + i) i h refl at) in
          absurd (omega (arith, it.own_is, me.own_is, e));
    }

pub next-shared : (starts : List Boot) (board : TableId) (shared : Shared) (gs : List Monitored) (g : Monitored) (xs : List Monitored) → GuestsFrom starts board shared 0 (gs ++ g ∷ xs) → AreOf shared g
next-shared starts board shared gs g xs from = (guest-at starts board shared 0 (gs ++ g ∷ xs) (length gs) g from (at-mid gs g xs)).shared_is

-- ---- what was taken

-- the first of these guests have taken all that the others sent
pub record AreSettled (gs xs : List Monitored) : Type 0 where
  pub none : (i : ℕ) (g : Monitored) → slice_get gs i ≡ Some g → HasNone g
  pub all : (i j : ℕ) (g h : Monitored) → slice_get gs i ≡ Some g → slice_get (gs ++ xs) j ≡ Some h → i ≢ j → HasAllOf g h

pub settled-none : (xs : List Monitored) → AreSettled [] xs
settled-none xs = record { none = λ i g at. absurd cc; all = λ i j g h at e. absurd cc }

still-armed : (g h : Monitored) → KeepsEnds g h → IsArmed h → IsArmed g
still-armed g h k armed = record { not_ended = ap (λ s. s.end) (sym k.stays.state) ∙ armed.not_ended; armed = λ e. armed.armed (ap (λ s. s.devices.armed) k.stays.state ∙ e) }

at-there : (xs : List Monitored) (i : ℕ) → i < length xs → (x : Monitored) × (slice_get xs i ≡ Some x)
at-there [] i lt = absurd (let m : i < 0 = lt in omega arith)
at-there (x ∷ xs) zero lt = (x, refl)
at-there (x ∷ xs) (suc i) lt = at-there xs i (omega (arith, lt))

kept-at : (gs hs : List Monitored) (i : ℕ) (h : Monitored) → AreKept gs hs → slice_get hs i ≡ Some h → (g : Monitored) × (slice_get gs i ≡ Some g) × KeepsEnds g h
kept-at gs hs i h are at =
    let was = at-there gs i (omega (arith, within hs i h at, are.count)) in
    (was.0, was.1, are.each i was.0 h was.1 at)

-- what stood at a place before sends the same
sender-at : (gs hs : List Monitored) (g h : Monitored) (xs ys : List Monitored) (j : ℕ) (k : Monitored) → AreKept gs hs → Receives g h → AreKept xs ys → slice_get (hs ++ h ∷ ys) j ≡ Some k
    → (was : Monitored) × (slice_get (gs ++ g ∷ xs) j ≡ Some was) × SameSends was.passes k.passes
sender-at gs hs g h xs ys j k before is after at = ⊎_elim
    (λ p. let was = kept-at gs hs j k before p.1 in (was.0, at-left gs (g ∷ xs) j was.0 was.1, sends-of was.0.passes k.passes was.2.ends))
    (λ q. ⊎_elim
    (λ p. (g, ap (slice_get (gs ++ g ∷ xs)) (p.0 ∙ before.count) ∙ at-mid gs g xs, subst (λ (m : Monitored). SameSends g.passes m.passes) p.1 is.sends))
    (λ p. let was = kept-at xs ys p.0 k after p.2 in (was.0, at-right gs g xs j p.0 was.0 (p.1 ∙ ap (λ (n : ℕ). n + 1 + p.0) before.count) was.1, sends-of was.0.passes k.passes was.2.ends))
    q)
    (place-of hs h ys j k at)

-- one guest more
pub settled-more : (gs hs : List Monitored) (g h : Monitored) (xs ys : List Monitored) → AreKept gs hs → Receives g h → AreKept xs ys → AreSettled gs (g ∷ xs) → HasNone h → HasAll h hs → HasAll h ys → AreSettled (hs ++ h ∷ []) ys
settled-more gs hs g h xs ys before is after old none all-before all-after = record {
  none = λ i x at. ⊎_elim
      (λ p. let was = kept-at gs hs i x before p.1 in λ armed. ap (λ s. s.hand) was.2.stays.state ∙ old.none i was.0 was.1 (still-armed was.0 x was.2 armed))
      (λ q. ⊎_elim (λ p. subst HasNone p.1 none) (λ p. absurd (no p.0 x p.2)) q)
      (place-of hs h [] i x at);
  all = λ i j x k at end ne.
      let end' : slice_get (hs ++ h ∷ ys) j ≡ Some k = ap (λ (l : List Monitored). slice_get l j) (sym (append_assoc hs (h ∷ []) ys)) ∙ end in
      ⊎_elim
      (λ p. let was = kept-at gs hs i x before p.1 in let sender = sender-at gs hs g h xs ys j k before is after end' in
      λ armed. has-still was.0.passes sender.0.passes x.passes k.passes (old.all i j was.0 sender.0 was.1 sender.1 ne (still-armed was.0 x was.2 armed)) was.2.ends sender.2)
      (λ q. ⊎_elim
      (λ p. subst (λ (m : Monitored). HasAllOf m k) p.1 (⊎_elim
      (λ r. all-before j k r.1)
      (λ s. ⊎_elim (λ r. absurd (ne (p.0 ∙ sym r.0))) (λ r. all-after r.0 k r.2) s)
      (place-of hs h ys j k end')))
      (λ p. absurd (no p.0 x p.2))
      q)
      (place-of hs h [] i x at);
}
  where
    no : (n : ℕ) (y : Monitored) → slice_get [] n ≡ Some y → ⊥
    no n y e = cc

pub drained-of : (gs xs : List Monitored) → AreSettled gs xs → length xs ≡ 0 → AreDrained gs
drained-of gs xs are none = record { none = are.none; all = λ i j g h at end ne. are.all i j g h at (at-left gs xs j h end) ne }

-- the next one, and those behind it
pub split : (l : List Monitored) (x d : Monitored) (ys : List Monitored) → 0 < length l → x ≡ slice_index_or l 0 d → ys ≡ remove l 0 → l ≡ x ∷ ys
split [] x d ys some first rest = absurd (let m : 0 < 0 = some in omega arith)
split (y ∷ l) x d ys some first rest = λ k. sym first k ∷ sym rest k

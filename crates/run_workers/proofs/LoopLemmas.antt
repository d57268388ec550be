-- One outcome more, and one more guest.
use Rattle.std.proofs.Common.{◌≡◌, ℕ, zero, suc, ◌+◌, ◌<◌, ◌≤◌, List, [], ◌∷◌, ◌++◌, map, drop, length, get_or, refl, sym, ap, ◌∙◌, subst, arith, append_assoc, Option, Some}
use Rattle.std.specs.Prelude.{slice_get, slice_set, flat_map}
use Rattle.atomic_table.specs.Seated.{TableId}
use Rattle.shootdown.specs.Notes.{Seat}
use Rattle.isolation_law.specs.GuestState.{GuestState}
use Rattle.isolation_law.specs.Start.{Boot}
use Rattle.machine_desc.specs.declared.plan.Item.{Item}
use Rattle.machine_desc.specs.declared.plan.Item.TheVariants.{Run, Move, Fail}
use Rattle.guest_core.specs.declared.records.GuestRecord.{GuestRecord}
use Rattle.guest_core.specs.GuestView.{Monitored, Shared}
use Rattle.guest_lock.specs.Guests.{GuestsFrom}
use Rattle.plan_due.specs.Planned.{Planned, planned_as, planned}
use Rattle.plan_due.specs.Dealt.{queue_of, front, behind, without_front, dealt}
use Rattle.plan_due.specs.declared.outcome.Outcome.{Outcome}
use Rattle.run_workers.specs.Parts.{as_list}
use Rattle.run_workers.specs.Ending.{Leaves, AreLeft}

-- ---- lists

pub drop-more : {A : Type 0} (xs : List A) (n : ℕ) (d : A) → n < length xs → drop n xs ≡ get_or xs n d ∷ drop (n + 1) xs
drop-more [] n d l = absurd (let m : n < 0 = l in omega arith)
drop-more (x ∷ xs) zero d l = refl
drop-more (x ∷ xs) (suc n) d l = subst (λ k. drop n xs ≡ get_or xs n d ∷ drop k (x ∷ xs)) (let e : suc (n + 1) ≡ suc n + 1 = omega arith in e) (drop-more xs n d (omega arith))

pub drop-all : {A : Type 0} (xs : List A) (n : ℕ) → length xs ≤ n → drop n xs ≡ []
drop-all [] zero l = refl
drop-all [] (suc n) l = refl
drop-all (x ∷ xs) zero l = absurd (let m : suc (length xs) ≤ 0 = l in omega arith)
drop-all (x ∷ xs) (suc n) l = drop-all xs n (omega arith)

pub map-set : {A B : Type 0} (f : A → B) (xs : List A) (i : ℕ) (x : A) → map f (slice_set xs i x) ≡ slice_set (map f xs) i (f x)
map-set f [] i x = refl
map-set f (y ∷ ys) zero x = refl
map-set f (y ∷ ys) (suc i) x = ap (λ l. f y ∷ l) (map-set f ys i x)

pub flat_map-append : {A B : Type 0} (f : A → List B) (xs ys : List A) → flat_map f (xs ++ ys) ≡ flat_map f xs ++ flat_map f ys
flat_map-append f [] ys = refl
flat_map-append f (x ∷ xs) ys = ap (λ l. f x ++ l) (flat_map-append f xs ys) ∙ sym (append_assoc (f x) (flat_map f xs) (flat_map f ys))

-- ---- dealing

-- an item gets the next outcome of its processor
pub deal-next : (items : List Item) (n : ℕ) (d : Item) (p : ℕ) (queues : List (List Outcome)) → n < length items → p ≡ (planned_as 0 (get_or items n d)).processor
    → dealt (planned n (drop n items)) queues ≡ front (queue_of queues p) ++ dealt (planned (n + 1) (drop (n + 1) items)) (without_front queues p)
deal-next items n d p queues l is =
    let item = get_or items n d in
    ap (λ xs. dealt (planned n xs) queues) (drop-more items n d l)
    ∙ ap (λ k. front (queue_of queues (planned_as n item).processor) ++ dealt (planned k (drop (n + 1) items)) (without_front queues (planned_as n item).processor)) (let e : suc n ≡ n + 1 = omega arith in e)
    ∙ ap (λ q. front (queue_of queues q) ++ dealt (planned (n + 1) (drop (n + 1) items)) (without_front queues q)) (same item ∙ sym is)
  where
    same : (item : Item) → (planned_as n item).processor ≡ (planned_as 0 item).processor
    same item = by item
      where
        by : (i : Item) → (planned_as n i).processor ≡ (planned_as 0 i).processor
        by (Run p g v steps) = refl
        by (Move p g page kind node) = refl
        by (Fail p cell) = refl

-- and what is put of it comes before what the rest is dealt
pub put-next : {B : Type 0} (f : Outcome → List B) (was new all : List B) (first dealt_now : List Outcome) (plan : List Planned) (queues left : List (List Outcome)) (outcome : Option Outcome)
    → new ≡ was ++ flat_map f (as_list outcome) → as_list outcome ≡ first → dealt_now ≡ first ++ dealt plan left → queues ≡ left → was ++ flat_map f dealt_now ≡ all → new ++ flat_map f (dealt plan queues) ≡ all
put-next f was new all first dealt_now plan queues left outcome grown is deal same before =
    (λ k. grown k ++ flat_map f (dealt plan (same k)))
    ∙ append_assoc was (flat_map f (as_list outcome)) (flat_map f (dealt plan left))
    ∙ ap (λ l. was ++ l) ((λ k. flat_map f (is k) ++ flat_map f (dealt plan left)) ∙ sym (flat_map-append f first (dealt plan left)) ∙ ap (flat_map f) (sym deal))
    ∙ before

-- ---- guests

pub left-more : (starts : List Boot) (board : TableId) (k : ℕ) (states : List GuestState) (lefts : List GuestRecord) (seats : List Seat) (start : Boot) (state : GuestState) (left : GuestRecord) (seat : Seat) → AreLeft starts board k states lefts seats → slice_get starts (k + length lefts) ≡ Some start → Leaves start board (k + length lefts) state left seat → AreLeft starts board k (states ++ state ∷ []) (lefts ++ left ∷ []) (seats ++ seat ∷ [])
left-more starts board k [] [] [] start state left seat are named leaves =
    let here : k + 0 ≡ k = omega arith in
    let one : (s : Boot) × (slice_get starts k ≡ Some s) × Leaves s board k state left seat = (start, subst (λ n. slice_get starts n ≡ Some start) here named, subst (λ n. Leaves start board n state left seat) here leaves) in
    (one, tt)
left-more starts board k [] [] (t ∷ seats) start state left seat are named leaves = absurd are
left-more starts board k [] (r ∷ lefts) seats start state left seat are named leaves = absurd are
left-more starts board k (s ∷ states) [] seats start state left seat are named leaves = absurd are
left-more starts board k (s ∷ states) (r ∷ lefts) [] start state left seat are named leaves = absurd are
left-more starts board k (s ∷ states) (r ∷ lefts) (t ∷ seats) start state left seat are named leaves =
    let next : k + suc (length lefts) ≡ k + 1 + length lefts = omega arith in
    (are.0, left-more starts board (k + 1) states lefts seats start state left seat are.1 (subst (λ n. slice_get starts n ≡ Some start) next named) (subst (λ n. Leaves start board n state left seat) next leaves))

-- no more guests than the run has
pub left-within : (starts : List Boot) (board : TableId) (k : ℕ) (states : List GuestState) (lefts : List GuestRecord) (seats : List Seat) → AreLeft starts board k states lefts seats → k ≤ length starts → k + length lefts ≤ length starts
left-within starts board k [] [] [] are l = omega arith
left-within starts board k [] [] (t ∷ seats) are l = absurd are
left-within starts board k [] (r ∷ lefts) seats are l = absurd are
left-within starts board k (s ∷ states) [] seats are l = absurd are
left-within starts board k (s ∷ states) (r ∷ lefts) [] are l = absurd are
left-within starts board k (s ∷ states) (r ∷ lefts) (t ∷ seats) are l =
    let few = named-within starts k are.0.0 are.0.1 in
    let rest = left-within starts board (k + 1) states lefts seats are.1 (omega arith) in omega arith
  where
    named-within : (xs : List Boot) (i : ℕ) (x : Boot) → slice_get xs i ≡ Some x → i < length xs
    named-within [] i x e = absurd cc
    named-within (y ∷ ys) zero x e = omega arith
    named-within (y ∷ ys) (suc i) x e = let r = named-within ys i x e in omega arith

-- the first is dropped
pub behind-drop : (queue : List Outcome) → drop 1 queue ≡ behind queue
behind-drop [] = refl
behind-drop (slice ∷ queue) = refl

pub guests-past : (starts : List Boot) (board : TableId) (shared : Shared) (k : ℕ) (guests : List Monitored) → GuestsFrom starts board shared k guests → length guests ≡ 0 → length starts ≤ k
guests-past starts board shared k [] from none = from
guests-past starts board shared k (g ∷ guests) from none = absurd (let m : suc (length guests) ≡ 0 = none in omega arith)

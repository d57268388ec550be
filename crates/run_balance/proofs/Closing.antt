-- What all owners took of a deque, once it is done.
use Rattle.std.proofs.Common.{◌≡◌, ℕ, zero, suc, ◌≤◌, ◌==◌, List, [], ◌∷◌, ◌++◌, map, replicate, sum_by, slice_get, Some, refl, sym, ap, ◌∙◌, arith}
use Rattle.std.specs.List.{All}
use Rattle.std.proofs.lemmas.List.Sums.{sum_by-cons, sum_by-append}
use Rattle.std.proofs.lemmas.List.Elements.{All-head, All-tail}
use Rattle.run_balance.specs.Logs.{Took, took, placed, mark_of, marks, Logged, items_of, items_got}
use Rattle.run_balance.specs.Rule.{FitsAt}
use Rattle.run_balance.specs.Sides.{AreRising, IsPart}
use Rattle.run_balance.specs.Owners.{AreRisingPlaces, IsPartOf, times, one_if}
use Rattle.run_balance.specs.declared.task.Task.{Task}
use Rattle.run_balance.specs.declared.task.Task.TheVariants.{Item, End}

-- ---- the order

rising_from : (from to : ℕ) (places : List ℕ) → from ≤ to → AreRisingPlaces to places → AreRisingPlaces from places
rising_from from to [] less rising = tt
rising_from from to (p ∷ places) less rising = ((let e = rising.0 in omega arith), rising.1)

record Places (share : List ℕ) (from : ℕ) (items : List ℕ) : Type 0 where
  pub places : List ℕ
  pub rising : AreRisingPlaces from places
  pub are : map (λ (p : ℕ). slice_get share p) places ≡ map Some items

places_one : (share : List ℕ) (from place : ℕ) (task : Task) (items : List ℕ) → from ≤ place → FitsAt share place task → Places share (suc place) items → Places share from (items_of task ++ items)
places_one share from place (Item x) items less fit rest =
    record { places = place ∷ rest.places; rising = (less, rest.rising); are = λ i. fit i ∷ rest.are i }
places_one share from place End items less fit rest =
    record { places = rest.places; rising = rising_from from (suc place) rest.places (let e : from ≤ suc place = omega arith in e) rest.rising; are = rest.are }

places_of : (share : List ℕ) (from : ℕ) (got : List Took) → AreRising from got → All (λ (t : Took). FitsAt share t.place t.task) got → Places share from (items_got got)
places_of share from [] rising fit = record { places = []; rising = tt; are = refl }
places_of share from (t ∷ got) rising fit =
    let P = λ (t : Took). FitsAt share t.place t.task in
    places_one share from t.place t.task (items_got got) rising.0 (All-head P t got fit) (places_of share (suc t.place) got rising.1 (All-tail P t got fit))

-- what an owner got of a deque stands in the share's order
pub part_in_turn : (share : List ℕ) (ends : ℕ) (items : List ℕ) (v : Logged) → IsPart share ends items v → IsPartOf share items
part_in_turn share ends items v is =
    let p = places_of share 0 v.got is.rising is.fit in
    record { places = p.places; rising = p.rising; are = p.are ∙ ap (map Some) (sym is.items_are) }

-- ---- each once

-- how often an item stands among the items of a taken task
abbrev pub weight_of : ℕ → Took → ℕ
weight_of item t = times item (items_of t.task)

pub times_got : (item : ℕ) (got : List Took) → times item (items_got got) ≡ sum_by (weight_of item) got
times_got item [] = refl
times_got item (t ∷ got) =
    let rest = times_got item got in
    let a = sum_by-append (λ (x : ℕ). one_if (x == item)) (items_of t.task) (items_got got) in
    let b = sum_by-cons (weight_of item) t got in
    omega arith

abbrev first_or : Task → List Task → Task
first_or d [] = d
first_or d (t ∷ tasks) = t

abbrev rest_of : List Task → List Task
rest_of [] = []
rest_of (t ∷ tasks) = tasks

-- marks weigh nothing
ends_alone : (item k n : ℕ) (gone items : List Task) → gone ++ items ≡ replicate n End → sum_by (weight_of item) (placed k gone) ≡ 0
ends_alone item k n [] items same = refl
ends_alone item k zero (g ∷ gone) items same = absurd cc
ends_alone item k (suc n) (g ∷ gone) items same =
    let is : g ≡ End = ap (first_or End) same in
    let rest = ends_alone item (suc k) n gone items (ap rest_of same) in
    let a = sum_by-cons (weight_of item) (took k g) (placed (suc k) gone) in
    let b : weight_of item (took k g) ≡ 0 = ap (λ (t : Task). times item (items_of t)) is in
    omega arith

-- where a mark has left the deque, all items have
pub all_gone : (item k n : ℕ) (share : List ℕ) (gone items : List Task) → gone ++ items ≡ map Item share ++ replicate n End → 1 ≤ marks gone → sum_by (weight_of item) (placed k gone) ≡ times item share
all_gone item k n [] gone items same some = ends_alone item k n gone items same
all_gone item k n (y ∷ share) [] items same some = absurd (omega arith)
all_gone item k n (y ∷ share) (g ∷ gone) items same some =
    let is : g ≡ Item y = ap (first_or End) same in
    let m = sum_by-cons mark_of g gone in
    let none : mark_of g ≡ 0 = ap mark_of is in
    let rest = all_gone item (suc k) n share gone items (ap rest_of same) (let e : 1 ≤ marks gone = omega arith in e) in
    let a = sum_by-cons (weight_of item) (took k g) (placed (suc k) gone) in
    let b : weight_of item (took k g) ≡ times item (y ∷ []) = ap (λ (t : Task). times item (items_of t)) is in
    let d = sum_by-cons (λ (x : ℕ). one_if (x == item)) y share in
    let e = sum_by-cons (λ (x : ℕ). one_if (x == item)) y [] in
    omega arith

-- What an owner has, and what it got.
use Rattle.std.specs.Prelude.{◌≡◌, ◌≢◌, ℕ, zero, suc, ◌+◌, ◌<◌, ◌≤◌, ◌==◌, Bool, if◌then◌else◌, List, [], ◌∷◌, ◌++◌, length, map, sum_by, All, Some, slice_get, slice_index_or, vec_capacity}
use Rattle.run_balance.specs.Logs.{Logged}
use Rattle.run_balance.specs.Shares.{Share, flat, whose_at, share_at, deque_no, stretches_of, joined}
use Rattle.run_balance.specs.Sides.{Deque, side_at, side_log, side_dealt, IsSide, items_from, one_below, IsPart}
use Rattle.run_balance.specs.declared.owner.Owner.{Owner}

-- ---- an owner, as it is told

-- its number
abbrev pub number_of : Owner → ℕ
number_of o = o.number.0

-- the first stretch of a processor that it doesn't know to be over
abbrev pub reached_of : Owner → ℕ → ℕ
reached_of o p = slice_index_or o.reached.items p 0

-- its own current stretch, by its number among all
abbrev pub stretch_of : Owner → ℕ
stretch_of o = reached_of o (number_of o)

-- how much of that is dealt
abbrev pub dealt_of : Owner → ℕ
dealt_of o = side_dealt (side_at o.sides.items (stretch_of o))

-- what it got, in order; from which deques; and what of it came from one deque
abbrev pub taken_by : Owner → List ℕ
taken_by o = o.taken.items

abbrev pub from_of : Owner → List ℕ
from_of o = o.from.items

abbrev pub taken_from : ℕ → Owner → List ℕ
taken_from d o = items_from d (from_of o) (taken_by o)

-- what it knows of a deque
abbrev pub log_of : Owner → ℕ → Logged
log_of o d = side_log (side_at o.sides.items d)

-- ---- what holds of it

abbrev pub sum_to : ℕ → (ℕ → ℕ) → ℕ
sum_to zero f = 0
sum_to (suc n) f = sum_to n f + f n

-- how many items there are in all
abbrev pub total_of : List Share → ℕ
total_of line = sum_to (length line) (λ d. length (share_at line d))

-- a stretch of its own: all of it is dealt once it is over, and nothing of it is before the one in front is over
pub record IsInTurn (share : List ℕ) (d reached dealt : ℕ) : Type 0 where
  pub over : d < reached → dealt ≡ length share
  pub ahead : reached < d → dealt ≡ 0

-- one processor's among the deques from which an owner got something, in order: no later one stands before an earlier one
abbrev pub AreInLine : List Share → ℕ → ℕ → List ℕ → Type 0
AreInLine line number low [] = Unit {0}
AreInLine line number low (d ∷ froms) = (whose_at line d ≡ number → low ≤ d) × AreInLine line number (if whose_at line d == number then d else low) froms

-- One call made the owner and these deques, for these stretches and so many owners: it has its side of each, and what it got is told by deque.
pub record IsOwner (deques : List Deque) (line : List Share) (owners : ℕ) (o : Owner) : Type 0 where
  pub many : length line ≡ length deques
  pub number : number_of o < owners
  pub reached_all : length o.reached.items ≡ owners
  pub sides_all : length o.sides.items ≡ length deques
  pub whose : (d : ℕ) (q : Deque) → slice_get deques d ≡ Some q → (q.whose ≡ whose_at line d) × (q.whose < owners)
  pub sides : (d : ℕ) (q : Deque) → slice_get deques d ≡ Some q → IsSide q (share_at line d) owners (number_of o) (side_at o.sides.items d)
  pub parts : (d : ℕ) → d < length deques → IsPart (share_at line d) (one_below d (reached_of o (whose_at line d))) (taken_from d o) (log_of o d)
  pub in_turn : (d : ℕ) → d < length deques → whose_at line d ≡ number_of o → IsInTurn (share_at line d) d (stretch_of o) (side_dealt (side_at o.sides.items d))
  pub both : length (from_of o) ≡ length (taken_by o)
  pub froms : All (λ (d : ℕ). d < length deques) (from_of o)
  pub in_line : (p : ℕ) → AreInLine line p 0 (from_of o)
  pub so_far : All (λ (d : ℕ). d ≤ reached_of o (whose_at line d)) (from_of o)
  pub room : total_of line ≤ vec_capacity o.taken
  pub room_from : total_of line ≤ vec_capacity o.from

abbrev pub IsOf : List Deque → List (List (List ℕ)) → Owner → Type 0
IsOf deques shares o = IsOwner deques (flat shares) (length shares) o

-- its current stretch is one of its own: it hasn't gone through all of them
pub record IsAtWork (shares : List (List (List ℕ))) (o : Owner) : Type 0 where
  pub inside : stretch_of o < length (flat shares)
  pub own : whose_at (flat shares) (stretch_of o) ≡ number_of o

-- the items of that stretch
abbrev pub items_now : List (List (List ℕ)) → Owner → List ℕ
items_now shares o = share_at (flat shares) (stretch_of o)

-- ---- what a call does to it

-- it got an item of a deque, and nothing else
pub record GotOne (d : ℕ) (item : ℕ) (old new : Owner) : Type 0 where
  pub taken : taken_by new ≡ taken_by old ++ item ∷ []
  pub from : from_of new ≡ from_of old ++ d ∷ []

-- it got nothing
pub record GotNone (old new : Owner) : Type 0 where
  pub taken : taken_by new ≡ taken_by old
  pub from : from_of new ≡ from_of old

-- it stands where it stood
pub record IsSameOwner (old new : Owner) : Type 0 where
  pub number : number_of new ≡ number_of old
  pub stretch : stretch_of new ≡ stretch_of old
  pub dealt : dealt_of new ≡ dealt_of old

-- it knows as much as before
pub record KnowsAsMuch (old new : Owner) : Type 0 where
  pub reached : new.reached ≡ old.reached

-- It got an item of its current stretch, and all else stays.
pub record TookOwn (item : ℕ) (old new : Owner) : Type 0 where
  pub got : GotOne (stretch_of old) item old new
  pub same : IsSameOwner old new
  pub knows : KnowsAsMuch old new

-- It found its deque empty: where all of the stretch was dealt, it is over, and it goes on to the next; else all stays.
pub record FoundNone (shares : List (List (List ℕ))) (old new : Owner) : Type 0 where
  pub got : GotNone old new
  pub number : number_of new ≡ number_of old
  pub over : IsAtWork shares old → dealt_of old ≡ length (items_now shares old) → (stretch_of new ≡ stretch_of old + 1) × (dealt_of new ≡ 0)
  pub waits : (IsAtWork shares old → dealt_of old ≢ length (items_now shares old)) → IsSameOwner old new × KnowsAsMuch old new

-- It got an item of another's first stretch that it doesn't know to be over.
pub record TookOther (shares : List (List (List ℕ))) (from item : ℕ) (old new : Owner) : Type 0 where
  pub d : ℕ
  pub inside : d < length (flat shares)
  pub whose : whose_at (flat shares) d ≡ from
  pub first : reached_of new from ≡ d
  pub got : GotOne d item old new

-- an owner that has dealt and got nothing
pub record IsFresh (deques : List Deque) (shares : List (List (List ℕ))) (number : ℕ) (o : Owner) : Type 0 where
  pub is : IsOf deques shares o
  pub number_is : number_of o ≡ number
  pub at_first : stretch_of o ≡ deque_no shares number 0
  pub nothing_dealt : dealt_of o ≡ 0
  pub nothing_taken : taken_by o ≡ []

-- ---- what all of them got

-- 1 where something is so
abbrev pub one_if : Bool → ℕ
one_if b = if b then 1 else 0

-- how often an item stands in a list
abbrev pub times : ℕ → List ℕ → ℕ
times item items = sum_by (λ x. one_if (x == item)) items

abbrev pub AreRisingPlaces : ℕ → List ℕ → Type 0
AreRisingPlaces from [] = Unit {0}
AreRisingPlaces from (place ∷ places) = (from ≤ place) × AreRisingPlaces (suc place) places

-- items stand in a share, in its order
pub record IsPartOf (share items : List ℕ) : Type 0 where
  pub places : List ℕ
  pub rising : AreRisingPlaces 0 places
  pub are : map (λ (p : ℕ). slice_get share p) places ≡ map Some items

-- what came from deques of one processor
abbrev pub items_of_processor : List Share → ℕ → List ℕ → List ℕ → List ℕ
items_of_processor line number (d ∷ froms) (item ∷ items) = if whose_at line d == number then item ∷ items_of_processor line number froms items else items_of_processor line number froms items
items_of_processor line number froms items = []

-- what an owner took of a processor's stretches
abbrev pub taken_of : List (List (List ℕ)) → ℕ → Owner → List ℕ
taken_of shares p o = items_of_processor (flat shares) p (from_of o) (taken_by o)

-- Each item that was dealt stands in exactly one owner's list, as often as in all stretches, and so does each that was dealt through one deque, as
-- often as in that stretch; what an owner got of a deque stands in that stretch's order; and what it got of all a processor's stretches, of its own and of another's, in the order of that processor's whole share.
pub record AreDealt (shares : List (List (List ℕ))) (owners : List Owner) : Type 0 where
  pub sum : (item : ℕ) → sum_by (λ (o : Owner). times item (taken_by o)) owners ≡ sum_by (λ (s : Share). times item s.items) (flat shares)
  pub each : (d item : ℕ) → d < length (flat shares) → sum_by (λ (o : Owner). times item (taken_from d o)) owners ≡ times item (share_at (flat shares) d)
  pub in_turn : (d : ℕ) (i : ℕ) (o : Owner) → slice_get owners i ≡ Some o → d < length (flat shares) → IsPartOf (share_at (flat shares) d) (taken_from d o)
  pub whole : (p i : ℕ) (o : Owner) → slice_get owners i ≡ Some o → p < length shares → IsPartOf (joined (stretches_of shares p)) (taken_of shares p o)

-- The passes of a deque, taken in by its dealer.
use Rattle.std.specs.Prelude.{◌≡◌, ◌≢◌, ℕ, ◌+◌, ◌<◌, true, false, List, ◌++◌, length, sum_by, Some, slice_get}
use Rattle.crossbeam_deque.specs.Handles.{view, IsPassOf, worker_view, worker_deque}
use Rattle.run_balance.specs.Logs.{Took, Logged, placed}
use Rattle.run_balance.specs.Shares.{flat, whose_at}
use Rattle.run_balance.specs.Sides.{Deque, side_at}
use Rattle.run_balance.specs.Owners.{log_of, number_of, stretch_of, IsOf}
use Rattle.run_balance.specs.declared.owner.Owner.{Owner}
use Rattle.run_balance.specs.declared.side.Side.{Side}
use Rattle.run_balance.specs.declared.side.Side.TheVariants.{Own, Other, Spent}
use Rattle.run_balance.specs.declared.side.Stretch.{Stretch}
use Rattle.run_balance.specs.declared.task.Task.{Task}

-- what owners took of a deque, weighed, and of how many parts these are
abbrev pub weight_there : ℕ → (Took → ℕ) → List Owner → ℕ
weight_there d weight owners = sum_by (λ (o : Owner). sum_by weight (log_of o d).got) owners

abbrev pub parts_there : ℕ → List Owner → ℕ
parts_there d owners = sum_by (λ (o : Owner). (log_of o d).parts) owners

-- an owner's pass of a deque, if it has one
abbrev pub IsPassOrNone : (id : Deque) → Side → Type 0
IsPassOrNone q (Own s) = ⊥
IsPassOrNone q (Other seat) = IsPassOf q.id seat × ((view seat).deals ≡ false)
IsPassOrNone q Spent = Unit {0}

pub record HasPass (q : Deque) (d : ℕ) (o : Owner) : Type 0 where
  pub inside : d < length o.sides.items
  pub side : IsPassOrNone q (side_at o.sides.items d)

-- all but its side of a deque
pub record IsSameElse (d : ℕ) (old new : Owner) : Type 0 where
  pub number : new.number ≡ old.number
  pub reached : new.reached ≡ old.reached
  pub taken : new.taken ≡ old.taken
  pub from : new.from ≡ old.from
  pub sides_all : length new.sides.items ≡ length old.sides.items
  pub sides : (e : ℕ) → e ≢ d → side_at new.sides.items e ≡ side_at old.sides.items e

pub record AreSameElse (d : ℕ) (old new : List Owner) : Type 0 where
  pub long : length new ≡ length old
  pub each : (i : ℕ) (o p : Owner) → slice_get old i ≡ Some o → slice_get new i ≡ Some p → IsSameElse d o p

-- a dealer has taken in the passes of these owners
pub record Gathers (d : ℕ) (old : Logged) (owners : List Owner) (new : Logged) : Type 0 where
  pub deals : new.deals ≡ old.deals
  pub passes : new.passes ≡ old.passes
  pub put : new.put ≡ old.put
  pub parts : new.parts ≡ old.parts + parts_there d owners
  pub got : (weight : Took → ℕ) → sum_by weight new.got ≡ sum_by weight old.got + weight_there d weight owners

-- a deque's owner, and the others' passes of it, one each
pub record HasDeque (d p : ℕ) (owners : List Owner) : Type 0 where
  pub q : Deque
  pub own : Owner
  pub there : slice_get owners p ≡ Some own
  pub inside : d < length own.sides.items
  pub stretch : Stretch
  pub side : side_at own.sides.items d ≡ Own stretch
  pub deque : worker_deque stretch.dealer ≡ q.id
  pub deals : (worker_view stretch.dealer).deals ≡ true
  pub parts : (worker_view stretch.dealer).parts ≡ 1
  pub passes : (worker_view stretch.dealer).passes ≡ length owners
  pub others : (i : ℕ) (o : Owner) → i ≢ p → slice_get owners i ≡ Some o → HasPass q d o
  pub all_parts : parts_there d owners ≡ length owners

-- what was put into a deque is what left it and what it holds; and however tasks are weighed, what all owners took of it weighs as much as what
-- left it
pub record IsSettled (d p : ℕ) (owners : List Owner) : Type 0 where
  pub own : Owner
  pub there : slice_get owners p ≡ Some own
  pub stretch : Stretch
  pub side : side_at own.sides.items d ≡ Own stretch
  pub items : List Task
  pub gone : List Task
  pub in_order : (worker_view stretch.dealer).put ≡ gone ++ items
  pub taken : (weight : Took → ℕ) → weight_there d weight owners ≡ sum_by weight (placed 0 gone)

-- one call made all of them with these deques
pub record AreAllOf (deques : List Deque) (shares : List (List (List ℕ))) (owners : List Owner) : Type 0 where
  pub long : length owners ≡ length shares
  pub many : length (flat shares) ≡ length deques
  pub each : (i : ℕ) (o : Owner) → slice_get owners i ≡ Some o → IsOf deques shares o × (number_of o ≡ i)

-- each has gone through all its stretches
abbrev pub AreThrough : List (List (List ℕ)) → List Owner → Type 0
AreThrough shares owners = (i : ℕ) (o : Owner) → slice_get owners i ≡ Some o → (d : ℕ) → d < length (flat shares) → whose_at (flat shares) d ≡ number_of o → d < stretch_of o

-- What an owner has of a deque.
use Rattle.std.specs.Prelude.{◌≡◌, ◌≢◌, ℕ, zero, suc, ◌+◌, ◌≤◌, ◌==◌, true, false, if◌then◌else◌, List, [], ◌∷◌, ◌++◌, length, map, take, replicate, All, slice_index_or}
use Rattle.crossbeam_deque.specs.Handles.{view, IsPassOf, worker_deque, worker_view, worker_flavor, worker_index, worker_capacity}
use Rattle.run_balance.specs.Logs.{Took, Logged, spent_log, marks_got, items_got}
use Rattle.run_balance.specs.Rule.{FitsAt}
use Rattle.run_balance.specs.Ends.{Dealer}
use Rattle.run_balance.specs.declared.task.Task.{Task}
use Rattle.run_balance.specs.declared.task.Task.TheVariants.{Item, End}
use Rattle.run_balance.specs.declared.side.Stretch.{Stretch}
use Rattle.run_balance.specs.declared.side.Side.{Side}
use Rattle.run_balance.specs.declared.side.Side.TheVariants.{Own, Other, Spent}

-- the type of what a function gives
abbrev pub result_of : (A B : Type 0) → (A → B) → Type 0
result_of A B f = B

-- what `worker_deque` tells deques apart by
abbrev pub DequeId : Type 0
DequeId = result_of Dealer _ (λ (d : Dealer). worker_deque d)

-- which deque it is, and whose stretch is dealt through it
pub record Deque : Type 0 where
  pub id : DequeId
  pub whose : ℕ

-- ---- a stretch that is dealt

-- what is put into a deque once so many items of its stretch are dealt: behind the last a mark for each owner
abbrev pub put_of : List ℕ → ℕ → ℕ → List Task
put_of share dealt owners = map Item (take dealt share) ++ (if dealt == length share then replicate owners End else [])

-- the end of a deque at which so many items are dealt
pub record IsDealer (share : List ℕ) (dealt owners : ℕ) (dealer : Dealer) : Type 0 where
  pub deals : (worker_view dealer).deals ≡ true
  pub passes : (worker_view dealer).passes ≡ owners
  pub put : (worker_view dealer).put ≡ put_of share dealt owners
  pub first : worker_flavor dealer ≡ 0
  pub index : worker_index dealer ≤ length (worker_view dealer).put
  pub room : length share + owners ≤ worker_capacity dealer

pub record IsStretch (share : List ℕ) (owners : ℕ) (s : Stretch) : Type 0 where
  pub count : s.count ≡ length share
  pub dealt : s.dealt ≤ length share
  pub dealer : IsDealer share s.dealt owners s.dealer

-- ---- sides

abbrev pub side_at : List Side → ℕ → Side
side_at sides d = slice_index_or sides d Spent

-- what an owner knows of a deque
abbrev pub side_log : Side → Logged
side_log (Own s) = worker_view s.dealer
side_log (Other seat) = view seat
side_log Spent = spent_log

-- how much of the stretch it has dealt
abbrev pub side_dealt : Side → ℕ
side_dealt (Own s) = s.dealt
side_dealt (Other seat) = 0
side_dealt Spent = 0

-- the side of a deque that an owner of a number has
abbrev pub IsSide : Deque → List ℕ → ℕ → ℕ → Side → Type 0
IsSide q share owners number (Own s) = (q.whose ≡ number) × (worker_deque s.dealer ≡ q.id) × IsStretch share owners s
IsSide q share owners number (Other seat) = (q.whose ≢ number) × IsPassOf q.id seat × ((view seat).deals ≡ false)
IsSide q share owners number Spent = ⊥

-- ---- what was taken

-- the items that came from a deque, in order
abbrev pub items_from : ℕ → List ℕ → List ℕ → List ℕ
items_from d (from ∷ froms) (item ∷ items) = if from == d then item ∷ items_from d froms items else items_from d froms items
items_from d froms items = []

-- at rising places, from a place on
abbrev pub AreRising : ℕ → List Took → Type 0
AreRising place [] = Unit {0}
AreRising place (t ∷ got) = (place ≤ t.place) × AreRising (suc t.place) got

-- 1 where a number is below another
abbrev pub one_below : ℕ → ℕ → ℕ
one_below d zero = 0
one_below zero (suc r) = 1
one_below (suc d) (suc r) = one_below d r

-- an owner's part in a deque, with so many marks: what it got there stands in the share, in its order
pub record IsPart (share : List ℕ) (ends : ℕ) (items : List ℕ) (v : Logged) : Type 0 where
  pub parts : v.parts ≡ 1
  pub share_is : v.share ≡ share
  pub marks_are : marks_got v.got ≡ ends
  pub items_are : items ≡ items_got v.got
  pub rising : AreRising 0 v.got
  pub fit : All (λ (t : Took). FitsAt share t.place t.task) v.got

-- The rule of a deque: what holds at every moment of the tasks in it and of what each pass knows.
use Rattle.std.specs.Prelude.{◌≡◌, ℕ, suc, ◌<◌, ◌≤◌, true, List, [], ◌∷◌, ◌++◌, length, sum_by, All, Some, slice_get}
use mathlib.Core.Option.{some}
use lib.ListN.{get_elem?}
use Rattle.run_balance.specs.Logs.{Took, took, placed, marks_got, Logged}
use Rattle.run_balance.specs.declared.task.Task.{Task}
use Rattle.run_balance.specs.declared.task.Task.TheVariants.{Item, End}

-- an item that is put stands at that place of the share
abbrev pub FitsAt : List ℕ → ℕ → Task → Type 0
FitsAt share place (Item item) = slice_get share place ≡ Some item
FitsAt share place End = Unit {0}

-- so do all of them, from a place on
abbrev pub FitFrom : List ℕ → ℕ → List Task → Type 0
FitFrom share place [] = Unit {0}
FitFrom share place (task ∷ tasks) = FitsAt share place task × FitFrom share (suc place) tasks

abbrev pub IsBefore : ℕ → Took → Type 0
IsBefore place t = t.place < place

-- one pass puts tasks, and knows which and how many passes there are; each knows the share; what was taken through a pass left the deque;
-- it took a mark for each of its parts at most, and nothing where it has no part
pub record Knows (dealer : ℕ) (share : List ℕ) (passes : ℕ) (put : List Task) (gone : ℕ) (port : ℕ) (v : Logged) : Type 0 where
  pub deals : v.deals ≡ true → (port ≡ dealer) × (v.put ≡ put) × (v.passes ≡ passes)
  pub share_is : 0 < v.parts → v.share ≡ share
  pub before : All (IsBefore gone) v.got
  pub marks_are : marks_got v.got ≤ v.parts
  pub idle : v.parts ≡ 0 → v.got ≡ []

-- What was put is what left and what the deque holds, in order. What left was taken through exactly one pass, each task once: however
-- tasks are weighed, what all passes took weighs as much.
pub record Dealing (items : List Task) (views : List Logged) : Type 0 where
  pub dealer : ℕ
  pub share : List ℕ
  pub passes : ℕ
  pub put : List Task
  pub gone : List Task
  pub in_order : put ≡ gone ++ items
  pub fit : FitFrom share 0 put
  pub parts : sum_by (λ v. v.parts) views ≡ passes
  pub taken : (weight : Took → ℕ) → sum_by (λ v. sum_by weight v.got) views ≡ sum_by weight (placed 0 gone)
  pub known : (port : ℕ) (v : Logged) → get_elem? views port ≡ some v → Knows dealer share passes put (length gone) port v

-- what a pass that took a task learns: the task's place, which lies behind all that it took before; the pass that puts tasks has put it there
pub record Takes (v : Logged) (task : Task) (w : Logged) : Type 0 where
  pub place : ℕ
  pub is : w ≡ record v { got = v.got ++ took place task ∷ [] }
  pub fits : FitsAt v.share place task
  pub behind : All (IsBefore place) v.got
  pub put : v.deals ≡ true → slice_get v.put place ≡ Some task

-- what the pass that puts tasks learns once it has taken in all others
pub record Settled (v : Logged) (items : List Task) : Type 0 where
  pub gone : List Task
  pub in_order : v.put ≡ gone ++ items
  pub taken : (weight : Took → ℕ) → sum_by weight v.got ≡ sum_by weight (placed 0 gone)

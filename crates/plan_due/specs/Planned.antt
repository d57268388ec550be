-- The items of a plan, in its order.
use Rattle.std.specs.Prelude.{ℕ, suc, ◌==◌, ◌&&◌, List, [], ◌∷◌, ◌++◌, Bool, false, if◌then◌else◌}
use Rattle.isolation_law.specs.Parts.{Wish}
use Rattle.machine_desc.specs.declared.plan.Item.{Item}
use Rattle.machine_desc.specs.declared.plan.Item.TheVariants.{Run, Move, Fail}

-- what an item asks of its processor: so many steps of a virtual processor, a move, or a cell's failure
pub data Work : Type 0 where
  Runs : (guest vcpu steps : ℕ) → Work
  Asks : (guest : ℕ) (wish : Wish) → Work
  Fails : (cell : ℕ) → Work

-- an item, with its place in the plan and its processor
pub record Planned : Type 0 where
  pub item : ℕ
  pub processor : ℕ
  pub work : Work

abbrev pub planned_as : ℕ → Item → Planned
planned_as item (Run p g v steps) = record { item = item; processor = p.0; work = Runs g.0 v.0 steps }
planned_as item (Move p g page kind node) = record { item = item; processor = p.0; work = Asks g.0 (record { page = page.0; kind = kind; node = node.0 }) }
planned_as item (Fail p cell) = record { item = item; processor = p.0; work = Fails cell.0 }

abbrev pub planned : ℕ → List Item → List Planned
planned item [] = []
planned item (x ∷ items) = planned_as item x ∷ planned (suc item) items

-- ---- which items

abbrev pub runs_of : ℕ → ℕ → Work → Bool
runs_of g v (Runs h u steps) = (h == g) && (u == v)
runs_of g v (Asks h wish) = false
runs_of g v (Fails cell) = false

abbrev pub wish_of : ℕ → Work → List Wish
wish_of g (Runs h u steps) = []
wish_of g (Asks h wish) = if h == g then wish ∷ [] else []
wish_of g (Fails cell) = []

abbrev pub fails_of : ℕ → Work → Bool
fails_of c (Runs h u steps) = false
fails_of c (Asks h wish) = false
fails_of c (Fails d) = d == c

-- a run of this virtual processor on this processor, and a failure of this cell
abbrev pub is_run_of : ℕ → ℕ → ℕ → Planned → Bool
is_run_of p g v item = (item.processor == p) && runs_of g v item.work

abbrev pub is_fail_of : ℕ → Planned → Bool
is_fail_of c item = fails_of c item.work

-- the moves of a guest for which the plan asks through a processor, in its order
abbrev pub wishes_for : ℕ → ℕ → List Planned → List Wish
wishes_for p g [] = []
wishes_for p g (item ∷ plan) = (if item.processor == p then wish_of g item.work else []) ++ wishes_for p g plan

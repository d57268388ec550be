-- Workers before and after their work.
use Rattle.std.specs.Prelude.{◌≡◌, ◌<◌, ◌≤◌, ◌^◌, List, [], length, All, Some, Vec}
use Rattle.std.specs.declared.alloc.Global.{Global}
use Rattle.atomic_table.specs.Seated.{TableId}
use Rattle.isolation_law.specs.Start.{Boot}
use Rattle.machine_desc.specs.declared.plan.Item.{Item}
use Rattle.guest_lock.specs.Fits.{Fits}
use Rattle.plan_due.specs.Planned.{planned}
use Rattle.plan_due.specs.Slices.{Machine, own, AreTold}
use Rattle.plan_due.specs.declared.outcome.Outcome.{Outcome}
use Rattle.run_workers.specs.Working.{IsSameToken, ItemFits, AreOfOneMachine}
use Rattle.run_workers.specs.declared.workers.Worker.{Worker}

-- the plan is one of the run's guests
pub record IsPlanOf (starts : List Boot) (items : List Item) : Type 0 where
  pub few : length starts ≤ 8
  pub few_items : length items < 2 ^ 32
  pub places : All (ItemFits starts) items
  pub cells : AreOfOneMachine starts

-- a worker's token is one of the run, without notes
pub record IsReady (starts : List Boot) (board : TableId) (worker : Worker) : Type 0 where
  pub fits : Fits starts board worker.token
  pub no_notes : worker.token.notes ≡ []

-- what a worker's token was told of is what came of its items
pub record Works (m : Machine) (items : List Item) (old new : Worker) : Type 0 where
  pub same : IsSameToken old.token new.token
  pub told : (outcomes : Vec Outcome Global) → new.outcomes ≡ Some outcomes → AreTold m (own new.token.number (planned 0 items)) outcomes.items new.token.notes

-- The workers of a litmus run: what each has to do, and what it leaves.
use Rattle.std.specs.Prelude.{◌≡◌, ◌++◌, true, List, [], ◌∷◌, All}
use Rattle.page_slots.specs.declared.access.SlotAccess.{SlotAccess}
use Rattle.page_slots.specs.declared.op.Op.{Op}
use Rattle.page_slots.specs.Litmus.{AreMade, IsOp, Makes}
use Rattle.page_slots.specs.Slots.{MadeSlots, CallerState, IsOf}
use Rattle.litmus_run.specs.declared.workers.Worker.{Worker}

-- a worker's caller, and its operations
abbrev pub caller_of : Worker → CallerState
caller_of worker = worker.caller

abbrev pub ops_of : Worker → List Op
ops_of worker = worker.ops

-- the caller is of the same slots and has the same number
abbrev pub Stays : CallerState → CallerState → Type 0
Stays old new = (new.slots ≡ old.slots) × (new.number ≡ old.number)

-- the caller made the access that an operation asks for
abbrev pub MakesOne : Op → CallerState → CallerState → Type 0
MakesOne op old new = (a : SlotAccess) × Makes op a × (new.mine ≡ old.mine ++ a ∷ [])

-- the caller is of the slots and has made nothing, and each operation is on one of their pages
pub record IsReady (slots : MadeSlots) (worker : Worker) : Type 0 where
  pub made : IsOf slots worker.caller
  pub fresh : worker.caller.mine ≡ []
  pub ops : All (IsOp slots.pages) worker.ops

-- where all is done, the caller's accesses are those that its operations ask for
pub record Works (old new : Worker) : Type 0 where
  pub stays : Stays old.caller new.caller
  pub ops : new.ops ≡ old.ops
  pub made : new.done ≡ true → AreMade new.ops new.caller.mine

-- all workers have done all
abbrev pub AreDone : List Worker → Type 0
AreDone workers = All (λ worker. worker.done ≡ true) workers

-- What is decided of a step for which the hardware trapped, before anything changes.
use Rattle.std.specs.Prelude.{◌≡◌, ℕ, Option, Some, Result}
use Rattle.base_words.specs.declared.effect.Request.{Request}
use Rattle.base_words.specs.declared.effect.Request.TheVariants as asks
use Rattle.base_words.specs.declared.exception.Exception.{Exception}
use Rattle.base_words.specs.declared.moves.MoveKind.{MoveKind}
use Rattle.base_words.specs.declared.place.Place.{Place}
use Rattle.base_words.specs.declared.regs.Regs.{Regs}
use Rattle.base_words.specs.declared.trap.TrapCause.{TrapCause}
use Rattle.base_words.specs.Coprocessor.{interrupts}
use Rattle.private_machine.specs.declared.vcpu.Vcpu.{Vcpu}
use Rattle.private_machine.specs.Access.{loaded, stored, linked_load, conditional_store}
use Rattle.private_machine.specs.DeviceAct.{Act, StoresTo, NoAct}
use Rattle.private_machine.specs.DevicePage.{transfer_of}
use Rattle.private_machine.specs.OwnStep.{answered, joined}
use Rattle.private_machine.specs.PrivateMachine.{PrivateMachine, vcpu}
use Rattle.private_machine.specs.StepAct.{act_of, act_next, stores_at, stores_linked}
use Rattle.private_machine.specs.TrapAccess.{HoldsWord}
use Rattle.trap_emulate.specs.declared.decision.Decision.{Decision}
use Rattle.trap_emulate.specs.declared.decision.Decision.TheVariants as decisions
use Rattle.trap_emulate.specs.declared.decision.Deed.{Deed}
use Rattle.trap_emulate.specs.declared.emulated.EntryWrite.{EntryWrite}
use Rattle.trap_emulate.specs.AtHand.{AtHand, needed_for, is_line}
use Rattle.trap_emulate.specs.Deeds.{done_by, act_by, IsWhole, told_of}
use Rattle.trap_emulate.specs.Emulation.{tried, Leaves, Emulates}

-- where a request leads whose access, if it is one, leads to a place; and what it does with a page
abbrev pub answered_at : PrivateMachine → ℕ → Regs → Request → Result Place Exception → Result PrivateMachine Exception
answered_at m v regs asks.Nothing place = answered m v regs asks.Nothing
answered_at m v regs (asks.Load kind address target) place = loaded m v regs kind target place
answered_at m v regs (asks.Store kind address value) place = stored m v regs kind value place
answered_at m v regs (asks.LoadLinked address target) place = linked_load m v regs target place
answered_at m v regs (asks.StoreConditional address value target) place = conditional_store m v regs target value place
answered_at m v regs (asks.ReadCp0 number target) place = answered m v regs (asks.ReadCp0 number target)
answered_at m v regs (asks.WriteCp0 number value) place = answered m v regs (asks.WriteCp0 number value)
answered_at m v regs (asks.System op) place = answered m v regs (asks.System op)

abbrev pub acts_at : PrivateMachine → ℕ → Request → Result Place Exception → Act
acts_at m v asks.Nothing place = NoAct
acts_at m v (asks.Load kind address target) place = NoAct
acts_at m v (asks.Store kind address value) place = stores_at m (transfer_of m.devices v) kind value place
acts_at m v (asks.LoadLinked address target) place = NoAct
acts_at m v (asks.StoreConditional address value target) place = stores_linked place
acts_at m v (asks.ReadCp0 number target) place = NoAct
acts_at m v (asks.WriteCp0 number value) place = NoAct
acts_at m v (asks.System op) place = act_of m v (asks.System op)

-- What a decision means, where the step at hand leads there and does this with a page: a deed that leads there, a move that the
-- page needs, or a store that is left.
abbrev pub Means : PrivateMachine → ℕ → Option MoveKind → Result PrivateMachine Exception → Act → Decision → Type 0
Means m v needs goes act (decisions.Make deed) = (goes ≡ done_by m v deed) × (act ≡ act_by m v deed)
Means m v needs goes act (decisions.Need page kind) = (act ≡ StoresTo page.0) × (needs ≡ Some kind)
Means m v needs goes act (decisions.Leave left) = Leaves m v goes act left

-- a decision is right for each machine whose step at hand is this virtual processor's, and whose memory holds what the cause tells
abbrev pub Decides : Vcpu → ℕ → Option MoveKind → TrapCause → Decision → Type 0
Decides c pages needs cause decision =
    (m : PrivateMachine) (v : ℕ) → AtHand m v c pages → interrupts (vcpu m v).cp0 ≡ is_line cause → HoldsWord m v cause
    → Means m v (needed_for needs cause) (tried m v) (act_next m v) decision

-- what is made is whole
abbrev pub MakesWhole : Decision → Type 0
MakesWhole (decisions.Make deed) = IsWhole deed
MakesWhole (decisions.Need page kind) = Unit {0}
MakesWhole (decisions.Leave left) = Unit {0}

-- a deed is made: where it is the one at hand, it makes the step whole
abbrev pub Makes : PrivateMachine → ℕ → Deed → PrivateMachine → Result (Option EntryWrite) Exception → Type 0
Makes m v deed new outcome =
    tried (joined m v) v ≡ done_by (joined m v) v deed → act_next (joined m v) v ≡ act_by (joined m v) v deed
    → (needs : Option MoveKind) (cause : TrapCause) → Emulates m v needs cause new (told_of outcome)

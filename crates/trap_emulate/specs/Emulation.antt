-- What the monitor makes of a step for which the hardware trapped, and tells of it.
use Rattle.std.specs.Prelude.{◌≡◌, ℕ, List, false, if◌then◌else◌, Option, Some, None, Result, Ok, Err, IsOk}
use Rattle.base_words.specs.declared.device.DeviceRegister.{DeviceRegister}
use Rattle.base_words.specs.declared.device.DeviceRegister.TheVariants.{DiskCommand, Send}
use Rattle.base_words.specs.declared.exception.Exception.{Exception}
use Rattle.base_words.specs.declared.exception.Exception.TheVariants.{Interrupt}
use Rattle.base_words.specs.declared.moves.MoveKind.{MoveKind}
use Rattle.base_words.specs.declared.trap.TrapCause.{TrapCause}
use Rattle.base_words.specs.declared.trap.TrapCause.TheVariants as causes
use Rattle.base_words.specs.Coprocessor.{interrupts}
use Rattle.base_words.specs.Instruction.{advanced}
use Rattle.base_words.specs.Tlb.{page_pair, entry_read}
use Rattle.guest_devs.specs.declared.act.DevAct.{DevAct}
use Rattle.guest_devs.specs.declared.act.DevAct.TheVariants as acts
use Rattle.guest_devs.specs.DeviceState.{DevsView}
use Rattle.private_machine.specs.declared.vcpu.Vcpu.{Vcpu}
use Rattle.private_machine.specs.Vcpu.{held_entry}
use Rattle.private_machine.specs.DevicePage.{transfer_of}
use Rattle.private_machine.specs.DeviceAct.{Act, StoresTo, WritesEntry, NoAct, at_register}
use Rattle.private_machine.specs.Devices.{device_done}
use Rattle.private_machine.specs.OwnStep.{attempted, joined, own_step}
use Rattle.private_machine.specs.PrivateMachine.{PrivateMachine, vcpu, left}
use Rattle.private_machine.specs.StepAct.{act_next}
use Rattle.trap_emulate.specs.declared.emulated.EntryWrite.{EntryWrite}
use Rattle.trap_emulate.specs.declared.emulated.Emulated.{Emulated}
use Rattle.trap_emulate.specs.declared.emulated.Emulated.TheVariants as emulated

-- where the step at hand leads before its tick, of a machine whose input has joined: an interrupt comes before the instruction
abbrev pub tried : PrivateMachine → ℕ → Result PrivateMachine Exception
tried m v = if interrupts (vcpu m v).cp0 then Err Interrupt else attempted m v

-- the step was made whole, raised nothing, and did this with a page
pub record Made (m : PrivateMachine) (v : ℕ) (act : Act) (new : PrivateMachine) : Type 0 where
  pub whole : own_step m v ≡ new
  pub does : act_next (joined m v) v ≡ act
  pub off : interrupts (vcpu (joined m v) v).cp0 ≡ false
  pub succeeds : IsOk (attempted (joined m v) v)

-- the same of one that wrote an entry of the guest's TLB
pub record Wrote (m : PrivateMachine) (v : ℕ) (w : EntryWrite) (new : PrivateMachine) : Type 0 where
  pub made : Made m v (WritesEntry w.index) new
  pub old_pair : w.old_pair ≡ page_pair (entry_read (vcpu (joined m v) v).tlb w.index).hi
  pub new_pair : w.new_pair ≡ page_pair (held_entry (vcpu (joined m v) v).cp0).hi

-- the step was made whole, and raised this
pub record Raised (m : PrivateMachine) (v : ℕ) (x : Exception) (new : PrivateMachine) : Type 0 where
  pub whole : own_step m v ≡ new
  pub does : act_next (joined m v) v ≡ NoAct
  pub raises : tried (joined m v) v ≡ Err x

-- the step stores to a page of memory, for which this move is needed first
pub record Needs (m : PrivateMachine) (v : ℕ) (store_needs : Option MoveKind) (cause : TrapCause) (page : ℕ) (kind : MoveKind) : Type 0 where
  pub does : act_next (joined m v) v ≡ StoresTo page
  pub told : store_needs ≡ Some kind
  pub word : ℕ
  pub read_only : cause ≡ causes.ReadOnly word

-- a step that leads there and does this with a page stores a value to a register of the device page
pub record Stores (m : PrivateMachine) (v : ℕ) (goes : Result PrivateMachine Exception) (act : Act) (value : ℕ) (register : DeviceRegister) : Type 0 where
  pub leads : goes ≡ Ok (device_done (left m v (advanced (vcpu m v).registers)) v value register)
  pub does : act ≡ at_register m (transfer_of m.devices v) value register

-- such a store is left to the caller: a disk read or write, or a send
abbrev pub Leaves : PrivateMachine → ℕ → Result PrivateMachine Exception → Act → DevAct → Type 0
Leaves m v goes act acts.Done = ⊥
Leaves m v goes act acts.DiskRead = Stores m v goes act 1 DiskCommand
Leaves m v goes act acts.DiskWrite = Stores m v goes act 2 DiskCommand
Leaves m v goes act (acts.Send to) = Stores m v goes act to Send

-- so does the instruction at hand, of a machine whose input has joined, where no interrupt is due
pub record Defers (m : PrivateMachine) (v : ℕ) (act : DevAct) : Type 0 where
  pub off : interrupts (vcpu m v).cp0 ≡ false
  pub leaves : Leaves m v (attempted m v) (act_next m v) act

-- the guest's private machine goes from m to new, and the answer tells of the step
abbrev pub Emulates : PrivateMachine → ℕ → Option MoveKind → TrapCause → PrivateMachine → Emulated → Type 0
Emulates m v store_needs cause new (emulated.Done None) = Made m v NoAct new
Emulates m v store_needs cause new (emulated.Done (Some w)) = Wrote m v w new
Emulates m v store_needs cause new (emulated.Forward x) = Raised m v x new
Emulates m v store_needs cause new (emulated.Need page kind) = Needs m v store_needs cause page.0 kind
Emulates m v store_needs cause new (emulated.Device act) = Defers (joined m v) v act

-- nothing has changed where the step isn't made
abbrev pub Waits : Emulated → List Vcpu → List Vcpu → DevsView → DevsView → Type 0
Waits (emulated.Done written) vcpus new_vcpus devs new_devs = Unit {0}
Waits (emulated.Forward x) vcpus new_vcpus devs new_devs = Unit {0}
Waits (emulated.Need page kind) vcpus new_vcpus devs new_devs = (new_vcpus ≡ vcpus) × (new_devs ≡ devs)
Waits (emulated.Device act) vcpus new_vcpus devs new_devs = (new_vcpus ≡ vcpus) × (new_devs ≡ devs)

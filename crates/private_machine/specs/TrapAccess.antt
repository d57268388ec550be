-- The access for which a processor trapped to the monitor, and what the cause that is told says of it.
use Rattle.std.specs.Prelude.{◌≡◌, ◌⊎◌, ℕ, Bool, true, false, Option, Some, None, Result, Ok, Err}
use Rattle.base_words.specs.declared.exception.Exception.{Exception}
use Rattle.base_words.specs.declared.regs.Regs.{Regs}
use Rattle.base_words.specs.declared.trap.TrapCause.{TrapCause}
use Rattle.base_words.specs.declared.trap.TrapCause.TheVariants as causes
use Rattle.base_words.specs.Instruction.{Effect, effect}
use Rattle.base_words.specs.OpcodeMap.{decoded}
use Rattle.base_words.specs.declared.place.Place.{Place}
use Rattle.base_words.specs.declared.place.Place.TheVariants.{Memory, Device}
use Rattle.private_machine.specs.PrivateMachine.{PrivateMachine, vcpu}
use Rattle.private_machine.specs.OwnStep.{led, fetched, is_privileged}
use Rattle.private_machine.specs.Reaching.{Wanted, wanted, fetch_at}
use Rattle.private_machine.specs.HardwareStep.{Trap, Line, FetchMiss, DataMiss, ReadOnly, Address, Privileged, Raised, Dead, cause_of}

-- the access for which the hardware trapped
abbrev pub trapped_access : Trap → Option Wanted
trapped_access Line = None
trapped_access (FetchMiss w) = Some w
trapped_access (DataMiss word w) = Some w
trapped_access (ReadOnly word w) = Some w
trapped_access (Address word) = None
trapped_access (Privileged word) = None
trapped_access (Raised x) = None
trapped_access (Dead at w) = Some w

-- the access that missed the TLB
abbrev pub missed_access : Trap → Option Wanted
missed_access Line = None
missed_access (FetchMiss w) = Some w
missed_access (DataMiss word w) = Some w
missed_access (ReadOnly word w) = None
missed_access (Address word) = None
missed_access (Privileged word) = None
missed_access (Raised x) = None
missed_access (Dead at w) = None

-- an access leads to memory
abbrev pub is_memory : Result Place Exception → Bool
is_memory (Err x) = false
is_memory (Ok (Memory offset)) = true
is_memory (Ok (Device offset)) = false

-- a virtual processor's own TLB grants the access, on memory
abbrev pub grants : PrivateMachine → ℕ → Option Wanted → Bool
grants m v None = false
grants m v (Some w) = is_memory (led m v w.unit w.purpose w.address)

-- the access of an instruction, and the one that a cause is about: that of the fetch, or of the instruction at the program
-- counter
abbrev pub asked_by : Result Effect Exception → Option Wanted
asked_by (Err x) = None
asked_by (Ok does) = wanted does.request

abbrev pub access_of : Regs → TrapCause → Option Wanted
access_of regs causes.Line = None
access_of regs causes.FetchMiss = Some (fetch_at regs.pc)
access_of regs (causes.DataMiss word) = asked_by (effect (decoded word) regs)
access_of regs (causes.ReadOnly word) = asked_by (effect (decoded word) regs)
access_of regs (causes.Address word) = None
access_of regs (causes.Privileged word) = None
access_of regs (causes.Raised x) = None
access_of regs (causes.Dead frame) = None

-- what the cause of a trap tells of its access; that of a dead frame leaves open which of the two it is
abbrev pub TellsAccess : Regs → Trap → Type 0
TellsAccess regs Line = trapped_access Line ≡ access_of regs (cause_of Line)
TellsAccess regs (FetchMiss w) = trapped_access (FetchMiss w) ≡ access_of regs (cause_of (FetchMiss w))
TellsAccess regs (DataMiss word w) = trapped_access (DataMiss word w) ≡ access_of regs (cause_of (DataMiss word w))
TellsAccess regs (ReadOnly word w) = trapped_access (ReadOnly word w) ≡ access_of regs (cause_of (ReadOnly word w))
TellsAccess regs (Address word) = trapped_access (Address word) ≡ access_of regs (cause_of (Address word))
TellsAccess regs (Privileged word) = trapped_access (Privileged word) ≡ access_of regs (cause_of (Privileged word))
TellsAccess regs (Raised x) = trapped_access (Raised x) ≡ access_of regs (cause_of (Raised x))
TellsAccess regs (Dead at w) = (w ≡ fetch_at regs.pc) ⊎ ((word : ℕ) × (asked_by (effect (decoded word) regs) ≡ Some w))

-- a word of the machine raises an exception by itself
pub record RaisesAlone (m : PrivateMachine) (v : ℕ) (x : Exception) : Type 0 where
  pub word : ℕ
  pub is_there : fetched m v ≡ Ok word
  pub unprivileged : is_privileged word ≡ false
  pub raises : effect (decoded word) (vcpu m v).registers ≡ Err x

-- at the program counter of a virtual processor stands the word that a cause tells
abbrev pub HoldsWord : PrivateMachine → ℕ → TrapCause → Type 0
HoldsWord m v causes.Line = Unit {0}
HoldsWord m v causes.FetchMiss = Unit {0}
HoldsWord m v (causes.DataMiss word) = fetched m v ≡ Ok word
HoldsWord m v (causes.ReadOnly word) = fetched m v ≡ Ok word
HoldsWord m v (causes.Address None) = Unit {0}
HoldsWord m v (causes.Address (Some word)) = fetched m v ≡ Ok word
HoldsWord m v (causes.Privileged word) = fetched m v ≡ Ok word
HoldsWord m v (causes.Raised x) = RaisesAlone m v x
HoldsWord m v (causes.Dead frame) = Unit {0}

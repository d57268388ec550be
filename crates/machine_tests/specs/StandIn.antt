-- For the tests alone: what a stand-in for the hardware says of its accesses.
use Rattle.std.specs.Prelude.{◌≡◌, ℕ, Bool, true, false, Option, Some, None, Result, Ok, Err}
use Rattle.base_words.specs.declared.exception.Exception.{Exception}
use Rattle.base_words.specs.declared.exception.Exception.TheVariants as raised
use Rattle.base_words.specs.declared.moves.MoveKind.{MoveKind}
use Rattle.base_words.specs.declared.place.Place.{Place}
use Rattle.base_words.specs.declared.trap.TrapCause.{TrapCause}
use Rattle.base_words.specs.declared.regs.Regs.{Regs}
use Rattle.base_words.specs.Coprocessor.{interrupts}
use Rattle.base_words.specs.Instruction.{Effect}
use Rattle.private_machine.specs.declared.vcpu.Vcpu.{Vcpu}
use Rattle.private_machine.specs.Reaching.{fetch_at}
use Rattle.private_machine.specs.TrapAccess.{asked_by}
use Rattle.private_machine.specs.PrivateMachine.{PrivateMachine, vcpu}
use Rattle.trap_emulate.specs.declared.requests.Access.{Access}
use Rattle.trap_emulate.specs.AtHand.{leads}
use Rattle.trap_emulate.specs.Requests.{wanted_of}
use Rattle.trap_emulate.specs.Trapped.{IsTrap}

-- an address that isn't aligned or is out of the mode's ranges
abbrev pub is_address_error : Result Place Exception → Bool
is_address_error (Ok p) = false
is_address_error (Err raised.Interrupt) = false
is_address_error (Err (raised.TlbModified a)) = false
is_address_error (Err (raised.TlbRefill u a)) = false
is_address_error (Err (raised.TlbInvalid u a)) = false
is_address_error (Err (raised.AddressError u a)) = true
is_address_error (Err (raised.BusError u)) = false
is_address_error (Err raised.SystemCall) = false
is_address_error (Err raised.Breakpoint) = false
is_address_error (Err raised.ReservedInstruction) = false
is_address_error (Err (raised.CoprocessorUnusable n)) = false
is_address_error (Err raised.Overflow) = false
is_address_error (Err raised.Trap) = false

-- no interrupt is due, and the program counter is aligned and in the mode's ranges
pub record Fetches (c : Vcpu) (pages : ℕ) : Type 0 where
  pub off : interrupts c.cp0 ≡ false
  pub range : is_address_error (leads c pages (fetch_at c.registers.pc)) ≡ false

-- what an instruction is found to ask, from registers that stay as they are: an access, or none
abbrev pub FindsAccess : Result Effect Exception → Regs → Regs → Result (Option Access) Exception → Type 0
FindsAccess does old new (Err x) = does ≡ Err x
FindsAccess does old new (Ok None) = Unit {0}
FindsAccess does old new (Ok (Some access)) = (asked_by does ≡ Some (wanted_of access)) × (new ≡ old)

-- the hardware traps at each machine with this virtual processor in a guest of so many pages
abbrev pub Traps : Vcpu → ℕ → Option MoveKind → TrapCause → Type 0
Traps c pages needs cause = (m : PrivateMachine) (v : ℕ) → vcpu m v ≡ c → m.pages ≡ pages → IsTrap m v needs cause

-- Why the hardware trapped at a virtual processor's step. The machine is the guest's private machine, whose input has joined.
use Rattle.std.specs.Prelude.{◌≡◌, ◌≢◌, ℕ, List, Option, Some, None, true, false, Ok, Err}
use Rattle.base_words.specs.declared.moves.MoveKind.{MoveKind}
use Rattle.base_words.specs.declared.trap.TrapCause.{TrapCause}
use Rattle.base_words.specs.Coprocessor.{in_user_mode, interrupts}
use Rattle.private_machine.specs.Backing.{Page}
use Rattle.private_machine.specs.HardwareStep.{Trap, Line, FetchMiss, DataMiss, ReadOnly, Address, Privileged, Raised, Dead, word_through, hardware_step, cause_of}
use Rattle.private_machine.specs.OwnStep.{fetched}
use Rattle.private_machine.specs.PrivateMachine.{PrivateMachine, vcpu}
use Rattle.private_machine.specs.Reaching.{Sight, Reached, reached, fetch_at}
use Rattle.private_machine.specs.TrapAccess.{grants}

-- What the guest says of the access for which the hardware trapped: one that missed isn't granted on memory; a store through a
-- half that isn't writable may be, where a move that it needs is told. No frame is lost.
abbrev pub IsDenied : PrivateMachine → ℕ → Option MoveKind → Trap → Type 0
IsDenied m v store_needs Line = Unit {0}
IsDenied m v store_needs (FetchMiss w) = grants m v (Some w) ≡ false
IsDenied m v store_needs (DataMiss word w) = grants m v (Some w) ≡ false
IsDenied m v store_needs (ReadOnly word w) = grants m v (Some w) ≡ true → store_needs ≢ None
IsDenied m v store_needs (Address word) = Unit {0}
IsDenied m v store_needs (Privileged word) = Unit {0}
IsDenied m v store_needs (Raised x) = Unit {0}
IsDenied m v store_needs (Dead there w) = ⊥

-- the hardware, with some TLB and frames, traps at the virtual processor's registers, and tells this cause
pub record IsTrap (m : PrivateMachine) (v : ℕ) (store_needs : Option MoveKind) (cause : TrapCause) : Type 0 where
  pub sight : Sight
  pub backing : List Page
  pub trap : Trap
  pub user : sight.user ≡ in_user_mode (vcpu m v).cp0.status
  pub asid : sight.asid ≡ (vcpu m v).cp0.entry_hi.asid
  pub line : sight.line ≡ interrupts (vcpu m v).cp0
  pub traps : hardware_step sight backing (vcpu m v).registers ≡ Err trap
  pub told : cause_of trap ≡ cause
  pub denied : IsDenied m v store_needs trap

-- the memory holds at the program counter what a processor fetches there with this TLB from these frames
abbrev pub FetchesAlike : PrivateMachine → ℕ → Sight → List Page → Type 0
FetchesAlike m v sight backing =
    (at : Reached) → reached sight (fetch_at (vcpu m v).registers.pc) ≡ Ok at → fetched m v ≡ Ok (word_through backing at (vcpu m v).registers.pc)

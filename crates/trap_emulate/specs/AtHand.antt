-- The step at hand of a virtual processor for which the hardware trapped, and what the cause says of it.
use Rattle.std.specs.Prelude.{◌≡◌, ◌≢◌, ℕ, Bool, true, false, Option, Some, None, Result}
use Rattle.base_words.specs.declared.effect.Request.{Request}
use Rattle.base_words.specs.declared.exception.Exception.{Exception}
use Rattle.base_words.specs.declared.moves.MoveKind.{MoveKind}
use Rattle.base_words.specs.declared.place.Place.{Place}
use Rattle.base_words.specs.declared.trap.TrapCause.{TrapCause}
use Rattle.base_words.specs.declared.trap.TrapCause.TheVariants as causes
use Rattle.base_words.specs.Instruction.{effect}
use Rattle.base_words.specs.OpcodeMap.{decoded}
use Rattle.base_words.specs.Place.{is_store, place}
use Rattle.private_machine.specs.declared.vcpu.Vcpu.{Vcpu}
use Rattle.private_machine.specs.OwnStep.{is_privileged}
use Rattle.private_machine.specs.PrivateMachine.{PrivateMachine, vcpu}
use Rattle.private_machine.specs.Reaching.{Wanted, wanted, fetch_at}
use Rattle.private_machine.specs.TrapAccess.{is_memory, asked_by}
use Rattle.private_machine.specs.Vcpu.{space_of}

-- where an access of a virtual processor leads, in a guest of so many pages
abbrev pub leads : Vcpu → ℕ → Wanted → Result Place Exception
leads c pages w = place (space_of c) pages w.unit w.purpose w.address

-- an instruction, not of coprocessor 0, asks for an access, which leads to memory only where it is a store that needs a move
pub record Asks (c : Vcpu) (pages : ℕ) (needs : Option MoveKind) (word : ℕ) : Type 0 where
  pub is_plain : is_privileged word ≡ false
  pub access : Wanted
  pub asked : asked_by (effect (decoded word) c.registers) ≡ Some access
  pub granted : is_memory (leads c pages access) ≡ true → (is_store access.purpose ≡ true) × (needs ≢ None)

-- the same of a request
pub record AsksAccess (c : Vcpu) (pages : ℕ) (needs : Option MoveKind) (request : Request) : Type 0 where
  pub access : Wanted
  pub asked : wanted request ≡ Some access
  pub granted : is_memory (leads c pages access) ≡ true → (is_store access.purpose ≡ true) × (needs ≢ None)

-- what a cause says of the virtual processor at which the hardware trapped
abbrev pub Expects : Vcpu → ℕ → Option MoveKind → TrapCause → Type 0
Expects c pages needs causes.Line = Unit {0}
Expects c pages needs causes.FetchMiss = is_memory (leads c pages (fetch_at c.registers.pc)) ≡ false
Expects c pages needs (causes.DataMiss word) = Asks c pages None word
Expects c pages needs (causes.ReadOnly word) = Asks c pages needs word
Expects c pages needs (causes.Address None) = is_memory (leads c pages (fetch_at c.registers.pc)) ≡ false
Expects c pages needs (causes.Address (Some word)) = Asks c pages None word
Expects c pages needs (causes.Privileged word) = is_privileged word ≡ true
Expects c pages needs (causes.Raised x) = Unit {0}
Expects c pages needs (causes.Dead frame) = ⊥

-- only a store through a half that isn't writable may need a move
abbrev pub needed_for : Option MoveKind → TrapCause → Option MoveKind
needed_for needs causes.Line = None
needed_for needs causes.FetchMiss = None
needed_for needs (causes.DataMiss word) = None
needed_for needs (causes.ReadOnly word) = needs
needed_for needs (causes.Address word) = None
needed_for needs (causes.Privileged word) = None
needed_for needs (causes.Raised x) = None
needed_for needs (causes.Dead frame) = None

-- an interrupt is told
abbrev pub is_line : TrapCause → Bool
is_line causes.Line = true
is_line causes.FetchMiss = false
is_line (causes.DataMiss word) = false
is_line (causes.ReadOnly word) = false
is_line (causes.Address word) = false
is_line (causes.Privileged word) = false
is_line (causes.Raised x) = false
is_line (causes.Dead frame) = false

-- a virtual processor of a machine has the step at hand of this one, in a guest of so many pages
pub record AtHand (m : PrivateMachine) (v : ℕ) (c : Vcpu) (pages : ℕ) : Type 0 where
  pub space : space_of (vcpu m v) ≡ space_of c
  pub registers : (vcpu m v).registers ≡ c.registers
  pub of_pages : m.pages ≡ pages
  pub closed : m.register_page ≡ false

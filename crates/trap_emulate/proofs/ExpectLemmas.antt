-- What a trap says of the virtual processor whose step is at hand.
use Rattle.std.proofs.Common.{◌≡◌, ℕ, false, Option, Some, None, sym, ap, ◌∙◌, subst, true≢false}
use Rattle.base_words.specs.declared.moves.MoveKind.{MoveKind}
use Rattle.base_words.specs.declared.regs.Regs.{Regs}
use Rattle.base_words.specs.declared.trap.TrapCause.{TrapCause}
use Rattle.base_words.specs.Coprocessor.{interrupts}
use Rattle.base_words.specs.Instruction.{effect}
use Rattle.base_words.specs.OpcodeMap.{decoded}
use Rattle.base_words.specs.Place.{AddressSpace}
use Rattle.private_machine.specs.declared.vcpu.Vcpu.{Vcpu}
use Rattle.private_machine.specs.HardwareStep.{Trap, Line, FetchMiss, DataMiss, ReadOnly, Address, Privileged, Raised, Dead, cause_of}
use Rattle.private_machine.specs.PrivateMachine.{PrivateMachine, vcpu}
use Rattle.private_machine.specs.Reaching.{Wanted, Sight, fetch_at}
use Rattle.private_machine.specs.TrapAccess.{is_memory, asked_by}
use Rattle.private_machine.specs.Vcpu.{space_of}
use Rattle.trap_emulate.specs.AtHand.{leads, Asks, Expects, is_line, AtHand}
use Rattle.trap_emulate.specs.Trapped.{IsDenied, IsTrap}
use Rattle.trap_emulate.proofs.AccessLemmas.{led-at}
use Rattle.trap_emulate.proofs.HardwareLemmas.{AsksAt, Told, told, reached-range}

-- by the trap
line-of : (x : Sight) (regs : Regs) (trap : Trap) → Told x regs trap → x.line ≡ is_line (cause_of trap)
line-of x regs Line tells = tells
line-of x regs (FetchMiss w) tells = tells.0
line-of x regs (DataMiss word w) tells = tells.0
line-of x regs (ReadOnly word w) tells = tells.0
line-of x regs (Address None) tells = tells.0
line-of x regs (Address (Some word)) tells = tells.0
line-of x regs (Privileged word) tells = tells.0
line-of x regs (Raised e) tells = tells
line-of x regs (Dead there w) tells = tells

-- an interrupt is due exactly where the cause tells one
pub line-told : (m : PrivateMachine) (v : ℕ) (needs : Option MoveKind) (cause : TrapCause) → IsTrap m v needs cause → interrupts (vcpu m v).cp0 ≡ is_line cause
line-told m v needs cause it =
    sym it.line ∙ line-of it.sight (vcpu m v).registers it.trap (told it.sight it.backing (vcpu m v).registers it.trap it.traps) ∙ ap is_line it.told

-- an access that leads to no memory
asks-none : (m : PrivateMachine) (v : ℕ) (c : Vcpu) (pages word : ℕ) (w : Wanted) → AtHand m v c pages → AsksAt (vcpu m v).registers word w → is_memory (leads c pages w) ≡ false → Asks c pages None word
asks-none m v c pages word w at asks none = record {
  is_plain = asks.is_plain;
  access = w;
  asked = ap (λ (r : Regs). asked_by (effect (decoded word) r)) (sym at.registers) ∙ asks.asked;
  granted = λ memory. absurd (true≢false (sym memory ∙ none));
}

by-trap : (m : PrivateMachine) (v : ℕ) (c : Vcpu) (pages : ℕ) (needs : Option MoveKind) (x : Sight) (trap : Trap) → AtHand m v c pages → x.user ≡ (space_of (vcpu m v)).user
    → Told x (vcpu m v).registers trap → IsDenied m v needs trap → Expects c pages needs (cause_of trap)
by-trap m v c pages needs x Line at user tells denied = tt
by-trap m v c pages needs x (FetchMiss w) at user tells denied =
    let fetched : w ≡ fetch_at c.registers.pc = tells.1 ∙ ap (λ (r : Regs). fetch_at r.pc) at.registers in
    subst (λ (a : Wanted). is_memory (leads c pages a) ≡ false) fetched (ap is_memory (sym (led-at m v c pages w at)) ∙ denied)
by-trap m v c pages needs x (DataMiss word w) at user tells denied =
    asks-none m v c pages word w at tells.1 (ap is_memory (sym (led-at m v c pages w at)) ∙ denied)
by-trap m v c pages needs x (ReadOnly word w) at user tells denied = record {
  is_plain = tells.1.is_plain;
  access = w;
  asked = ap (λ (r : Regs). asked_by (effect (decoded word) r)) (sym at.registers) ∙ tells.1.asked;
  granted = λ memory. (tells.2, denied (ap is_memory (led-at m v c pages w at) ∙ memory));
}
by-trap m v c pages needs x (Address None) at user tells denied =
    let range = reached-range x (space_of c) pages (fetch_at (vcpu m v).registers.pc) (user ∙ ap (λ (s : AddressSpace). s.user) at.space) tells.1 in
    subst (λ (r : Regs). is_memory (leads c pages (fetch_at r.pc)) ≡ false) at.registers range
by-trap m v c pages needs x (Address (Some word)) at user tells denied =
    asks-none m v c pages word tells.1.access at tells.1.asks
    (reached-range x (space_of c) pages tells.1.access (user ∙ ap (λ (s : AddressSpace). s.user) at.space) tells.1.no_range)
by-trap m v c pages needs x (Privileged word) at user tells denied = tells.1
by-trap m v c pages needs x (Raised e) at user tells denied = tt
by-trap m v c pages needs x (Dead there w) at user tells denied = denied

pub expects : (m : PrivateMachine) (v : ℕ) (c : Vcpu) (pages : ℕ) (needs : Option MoveKind) (cause : TrapCause) → AtHand m v c pages → IsTrap m v needs cause → Expects c pages needs cause
expects m v c pages needs cause at it =
    subst (Expects c pages needs) it.told
    (by-trap m v c pages needs it.sight it.trap at it.user (told it.sight it.backing (vcpu m v).registers it.trap it.traps) it.denied)

-- Input that joins leaves the step at hand of each virtual processor as it was.
use Rattle.std.proofs.Common.{◌≡◌, ℕ, zero, suc, ◌==◌, Bool, true, false, if◌then◌else◌, List, [], ◌∷◌, get_or, set, refl}
use Rattle.private_machine.specs.declared.vcpu.Vcpu.{Vcpu}
use Rattle.private_machine.specs.DeviceRegisters.{with_arrived}
use Rattle.private_machine.specs.OwnStep.{input_joined, joined}
use Rattle.private_machine.specs.PrivateMachine.{PrivateMachine, vcpu, input_waits}
use Rattle.private_machine.specs.Vcpu.{no_vcpu, space_of, with_line_on, held_entry}
use Rattle.trap_emulate.specs.AtHand.{AtHand}

-- a line of the first one goes on or off
space-line : (cs : List Vcpu) (v : ℕ) (on : Bool) → space_of (get_or (set cs 0 (with_line_on 2 on (get_or cs 0 no_vcpu))) v no_vcpu) ≡ space_of (get_or cs v no_vcpu)
space-line [] v on = refl
space-line (c ∷ cs) zero on = refl
space-line (c ∷ cs) (suc v) on = refl

registers-line : (cs : List Vcpu) (v : ℕ) (on : Bool) → (get_or (set cs 0 (with_line_on 2 on (get_or cs 0 no_vcpu))) v no_vcpu).registers ≡ (get_or cs v no_vcpu).registers
registers-line [] v on = refl
registers-line (c ∷ cs) zero on = refl
registers-line (c ∷ cs) (suc v) on = refl

tlb-line : (cs : List Vcpu) (v : ℕ) (on : Bool) → (get_or (set cs 0 (with_line_on 2 on (get_or cs 0 no_vcpu))) v no_vcpu).tlb ≡ (get_or cs v no_vcpu).tlb
tlb-line [] v on = refl
tlb-line (c ∷ cs) zero on = refl
tlb-line (c ∷ cs) (suc v) on = refl

entry-line : (cs : List Vcpu) (v : ℕ) (on : Bool) → held_entry (get_or (set cs 0 (with_line_on 2 on (get_or cs 0 no_vcpu))) v no_vcpu).cp0 ≡ held_entry (get_or cs v no_vcpu).cp0
entry-line [] v on = refl
entry-line (c ∷ cs) zero on = refl
entry-line (c ∷ cs) (suc v) on = refl

pub joined-tlb : (m : PrivateMachine) (v : ℕ) → (vcpu (joined m v) v).tlb ≡ (vcpu m v).tlb
joined-tlb m v = elim (v == 0) as (λ (b : Bool). (vcpu (if b then input_joined m else m) v).tlb ≡ (vcpu m v).tlb) [
  | true ↦ tlb-line m.vcpus v (input_waits (with_arrived (vcpu m 0).steps m.devices))
  | false ↦ refl
]

pub joined-entry : (m : PrivateMachine) (v : ℕ) → held_entry (vcpu (joined m v) v).cp0 ≡ held_entry (vcpu m v).cp0
joined-entry m v = elim (v == 0) as (λ (b : Bool). held_entry (vcpu (if b then input_joined m else m) v).cp0 ≡ held_entry (vcpu m v).cp0) [
  | true ↦ entry-line m.vcpus v (input_waits (with_arrived (vcpu m 0).steps m.devices))
  | false ↦ refl
]

pub joined-at-hand : (m : PrivateMachine) (v : ℕ) → m.register_page ≡ false → AtHand (joined m v) v (vcpu m v) m.pages
joined-at-hand m v closed = elim (v == 0) as (λ (b : Bool). AtHand (if b then input_joined m else m) v (vcpu m v) m.pages) [
  | true ↦ let on = input_waits (with_arrived (vcpu m 0).steps m.devices) in record { space = space-line m.vcpus v on; registers = registers-line m.vcpus v on; of_pages = refl; closed = closed }
  | false ↦ record { space = refl; registers = refl; of_pages = refl; closed = closed }
]

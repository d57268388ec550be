-- What a tick leaves of the quiet steps.
use Rattle.std.proofs.Common.{◌≡◌, ℕ, suc, ◌<◌, ◌+◌, ◌-◌, ◌==◌, if◌then◌else◌, true, false, List, length, get_or, refl, ap, ◌∙◌, subst, get_or-set_same, arith}
use Rattle.base_words.specs.declared.coprocessor.Cp0Registers.{Cp0Registers}
use Rattle.base_words.specs.Fields.{sum}
use Rattle.base_words.specs.Coprocessor.{interrupts, ticked, with_timer}
use Rattle.base_words.specs.Counts.{counted}
use Rattle.mips_cp0.specs.Quiet.{ticked_often}
use Rattle.private_machine.specs.declared.vcpu.Vcpu.{Vcpu}
use Rattle.private_machine.specs.Vcpu.{no_vcpu, ticking}
use Rattle.private_machine.specs.Signals.{changed}
use Rattle.private_machine.specs.DevicePage.{DevicePage}
use Rattle.guest_devs.specs.Quiet.{AreQuiet}

input-ticked : (c : Cp0Registers) → (ticked c).cause.pending.input ≡ c.cause.pending.input
input-ticked c = elim (sum c.count 1 == c.compare) as (λ b. (if b then with_timer true c.cause else c.cause).pending.input ≡ c.cause.pending.input) [ true ↦ refl | false ↦ refl ]

pub quiet-ticked : (n v : ℕ) (cs : List Vcpu) (page : DevicePage) → v < length cs → AreQuiet n v cs page → AreQuiet (n - 1) v (changed v ticking cs) page
quiet-ticked n v cs page there q =
    let old = get_or cs v no_vcpu in
    let at : get_or (changed v ticking cs) v no_vcpu ≡ ticking old = get_or-set_same cs v (ticking old) no_vcpu there in
    record {
      interrupts = λ k lt. ap (λ (c : Vcpu). interrupts (ticked_often k c.cp0)) at ∙ q.interrupts (suc k) (omega arith);
      input = λ first some.
          let rests = q.input first (omega arith) in
          let at0 : get_or (changed v ticking cs) 0 no_vcpu ≡ ticking (get_or cs 0 no_vcpu) = subst (λ (k : ℕ). get_or (changed v ticking cs) k no_vcpu ≡ ticking (get_or cs k no_vcpu)) first at in
          record {
            none = λ steps lt.
                let less : steps < counted (get_or cs 0 no_vcpu).steps + (n - 1) = subst (λ (c : Vcpu). steps < c.steps + (n - 1)) at0 lt in
                rests.none steps (omega arith);
            line = ap (λ (c : Vcpu). c.cp0.cause.pending.input) at0 ∙ input-ticked (get_or cs 0 no_vcpu).cp0 ∙ rests.line;
          };
    }

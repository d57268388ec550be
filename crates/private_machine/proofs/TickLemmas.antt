-- Many ticks in one go.
use Rattle.std.proofs.Common.{◌≡◌, ℕ, zero, suc, ◌+◌, ◌-◌, ◌^◌, ◌<◌, min, refl, sym, ap, ◌∙◌, arith}
use Rattle.base_words.specs.declared.coprocessor.Cp0Registers.{Cp0Registers}
use Rattle.base_words.specs.Coprocessor.{ticked}
use Rattle.base_words.specs.Counts.{counted}
use Rattle.mips_cp0.specs.Quiet.{ticked_often}
use Rattle.private_machine.specs.declared.vcpu.Vcpu.{Vcpu}
use Rattle.private_machine.specs.Vcpu.{ticking}
use Rattle.private_machine.specs.Ticking.{ticking_often}

-- one more at the end
often-more : (n : ℕ) (c : Cp0Registers) → ticked_often (suc n) c ≡ ticked (ticked_often n c)
often-more zero c = refl
often-more (suc n) c = often-more n (ticked c)

count-more : (n s : ℕ) → counted (min (s + n) (2 ^ 64 - 1)) ≡ min (s + suc n) (2 ^ 64 - 1)
count-more n s = omega arith

pub ticks-are : (n : ℕ) (c : Vcpu) → c.steps < 2 ^ 64 → ticking_often n c ≡ record c { cp0 = ticked_often n c.cp0; steps = min (c.steps + n) (2 ^ 64 - 1) }
ticks-are zero c small = ap (λ s. record c { steps = s }) (let e : c.steps ≡ min (c.steps + 0) (2 ^ 64 - 1) = omega (arith, small) in e)
ticks-are (suc n) c small =
    ap ticking (ticks-are n c small)
    ∙ (λ i. record c { cp0 = sym (often-more n c.cp0) i; steps = count-more n c.steps i })

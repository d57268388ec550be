-- Many ticks.
use Rattle.std.proofs.Common.{◌≡◌, ℕ, zero, suc, ◌+◌, ◌-◌, ◌<◌, refl, sym, ap, ◌∙◌, arith}
use Rattle.base_words.specs.declared.coprocessor.Cp0Registers.{Cp0Registers}
use Rattle.base_words.specs.Coprocessor.{ticked}
use Rattle.mips_cp0.specs.Behind.{later, Meets}
use Rattle.mips_cp0.specs.Quiet.{ticked_often}
use Rattle.mips_cp0.proofs.TickLemmas.{tick-before}

-- one more at the end
pub often-more : (n : ℕ) (c : Cp0Registers) → ticked_often (suc n) c ≡ ticked (ticked_often n c)
often-more zero c = refl
often-more (suc n) c = often-more n (ticked c)

-- some, and then others
pub often-then : (a b : ℕ) (c : Cp0Registers) → ticked_often b (ticked_often a c) ≡ ticked_often (a + b) c
often-then zero b c = ap (λ (n : ℕ). ticked_often n c) (let e : b ≡ 0 + b = omega arith in e)
often-then (suc a) b c = often-then a b (ticked c) ∙ ap (λ (n : ℕ). ticked_often n c) (let e : suc (a + b) ≡ suc a + b = omega arith in e)

-- before the timer comes
pub later-by : (k : ℕ) (r : Cp0Registers) (left ticks : ℕ) → Meets r.count r.compare left → ticks + k < left → ticked_often k (later ticks r) ≡ later (ticks + k) r
later-by zero r left ticks meets less = ap (λ (n : ℕ). later n r) (let e : ticks ≡ ticks + 0 = omega arith in e)
later-by (suc k) r left ticks meets less =
    ap (ticked_often k) (sym (tick-before r left ticks meets (omega arith)))
    ∙ later-by k r left (suc ticks) meets (omega arith)
    ∙ ap (λ (n : ℕ). later n r) (let e : suc ticks + k ≡ ticks + suc k = omega arith in e)

use Rattle.std.proofs.Common.{◌≡◌, ap, ◌∙◌, sym, ℕ, suc, ◌+◌, arith}
use Rattle.base_words.specs.Coprocessor.{ticked}
use Rattle.mips_cp0.specs.Quiet.{ticked_often}
use Rattle.mips_cp0.proofs.OftenLemmas.{often-more}
use Rattle.mips_cp0.proofs.coprocessor.Cp0.tick_each.Goals as goal

pub loop-step-preserved : goal.loop-step-preserved
loop-step-preserved c =
    let n = c.loop-step._step in
    c.tick.ensures ∙ ap ticked c.loop-step.invariant ∙ sym (often-more n c.args.self.now) ∙ ap (λ (k : ℕ). ticked_often k c.args.self.now) (let e : suc n ≡ n + 1 = omega arith in e)

-- The timer doesn't come yet.
use Rattle.std.proofs.Common.{◌≡◌, ◌<◌, ◌+◌, ℕ, suc, ap, ◌∙◌, arith}
use Rattle.base_words.specs.Coprocessor.{ticked}
use Rattle.mips_cp0.specs.Behind.{later}
use Rattle.mips_cp0.proofs.TickLemmas.{tick-before}
use Rattle.mips_cp0.proofs.coprocessor.Cp0.tick.Goals as goal

pub returns-else-ticks-self : goal.returns-else-ticks-self
returns-else-ticks-self c =
    let in' = c.self.inside in
    let before = c.self.invariant.before in
    let other = c.if-ticks-self.false in
    let less : suc in'.ticks < in'.left = omega arith in
    ap (λ (n : ℕ). later n in'.registers) (let e : in'.ticks + 1 ≡ suc in'.ticks = omega arith in e)
    ∙ tick-before in'.registers in'.left in'.ticks c.self.invariant.meets less
    ∙ ap ticked c.self.view_is

-- Before the timer comes, and past it.
use Rattle.std.proofs.Common.{◌≡◌, ◌+◌, ◌-◌, ℕ, suc, ap, sym, ◌∙◌, arith}
use Rattle.base_words.specs.declared.coprocessor.Cp0Registers.{Cp0Registers}
use Rattle.base_words.specs.Coprocessor.{ticked}
use Rattle.mips_cp0.specs.Behind.{later}
use Rattle.mips_cp0.specs.Quiet.{ticked_often}
use Rattle.mips_cp0.proofs.OftenLemmas.{often-more, often-then, later-by}
use Rattle.mips_cp0.proofs.coprocessor.Cp0.tick_by.Goals as goal

pub returns-then-steps-room : goal.returns-then-steps-room
returns-then-steps-room c =
    let in' = c.self.inside in
    let less = c.if-steps-room.true in
    sym (later-by c.args.steps in'.registers in'.left in'.ticks c.self.invariant.meets (omega (arith, less))) ∙ ap (ticked_often c.args.steps) c.self.view_is

pub returns-else-steps-room : goal.returns-else-steps-room
returns-else-steps-room c =
    let in' = c.self.inside in
    let before = c.self.invariant.before in
    let past = c.if-steps-room.false in
    let k = in'.left - 1 - in'.ticks in
    let rest = c.args.steps - (in'.left - in'.ticks) in
    let start : Cp0Registers = later in'.ticks in'.registers in
    let near : later (in'.left - 1) in'.registers ≡ ticked_often k start =
    ap (λ (n : ℕ). later n in'.registers) (let e : in'.left - 1 ≡ in'.ticks + k = omega arith in e)
    ∙ sym (later-by k in'.registers in'.left in'.ticks c.self.invariant.meets (omega (arith, before))) in
    c.tick_each.ensures
    ∙ ap (ticked_often rest) (c.tick.ensures ∙ ap ticked near ∙ sym (often-more k start))
    ∙ often-then (suc k) rest start
    ∙ ap (λ (n : ℕ). ticked_often n start) (let e : suc k + rest ≡ c.args.steps = omega (arith, before, past) in e)
    ∙ ap (ticked_often c.args.steps) c.self.view_is

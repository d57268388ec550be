-- Coprocessor 0 ticks so often, and so many steps are counted.
use Rattle.std.proofs.Common.{rules, ◌<◌, ◌^◌, sym, ◌∙◌}
use Rattle.private_machine.proofs.TickLemmas.{ticks-are}
use Rattle.private_machine.proofs.vcpu.Vcpu.tick_by.Goals as goal

pub returns : goal.returns
returns c =
    let small : c.args.self.now.steps < 2 ^ 64 = search rules in
    (λ i. record c.args.self.now { cp0 = c.tick_by.ensures i; steps = c.saturating_add-self.ensures i }) ∙ sym (ticks-are c.args.steps c.args.self.now small)

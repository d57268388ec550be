-- As many as are left.
use Rattle.std.proofs.Common.{rules, ◌≡◌, ◌-◌, false, ap, ◌∙◌, subst}
use Rattle.base_words.specs.Coprocessor.{interrupts}
use Rattle.mips_cp0.specs.Behind.{later}
use Rattle.mips_cp0.specs.Quiet.{IsQuiet}
use Rattle.mips_cp0.proofs.TickLemmas.{meets-later, quiet-before}
use Rattle.mips_cp0.proofs.coprocessor.Cp0.quiet_steps.Goals as goal

pub returns-else-pending : goal.returns-else-pending
returns-else-pending c =
    let in' = c.self.inside in
    let r = in'.registers in
    let none : interrupts c.args.self.now ≡ false = search rules in
    subst (IsQuiet (in'.left - in'.ticks)) c.self.view_is
    (quiet-before (later in'.ticks r) (in'.left - in'.ticks) (meets-later r.count r.compare in'.left in'.ticks c.self.invariant.meets c.self.invariant.before) (ap interrupts c.self.view_is ∙ none))

-- Each wire that was asked so far gave none.
use Rattle.std.proofs.Common.{None, rules}
use Rattle.wire_queue.specs.ListSteps.{TakesFrom}
use Rattle.guest_core.proofs.AskingLemmas.{vain-none, vain-next}
use Rattle.guest_core.proofs.wiring.Wiring.ask.Goals as goal

pub loop-from-init : goal.loop-from-init
loop-from-init g c =
    let passes = c.args.self.now.passes in
    (c.requires.list, vain-none passes passes.guest.0 c.args.first, search rules)

pub loop-from-preserved : goal.loop-from-preserved
loop-from-preserved g c =
    let old = c.args.self.now.passes in
    let mid = c.loop-from.self.passes in
    let new = c.receive.new.self in
    let takes : TakesFrom mid c.loop-from.from None new = search rules in
    (search rules, vain-next old mid new old.guest.0 c.args.first c.loop-from.from c.loop-from.invariant.1 takes, c.loop-from.invariant.2)

pub returns-in-Some-clause-some : goal.returns-in-Some-clause-some
returns-in-Some-clause-some g c = record { asked = _; mid = c.loop-from.self.passes; vain = c.loop-from.invariant.1; from = c.loop-from.from; takes = search rules }

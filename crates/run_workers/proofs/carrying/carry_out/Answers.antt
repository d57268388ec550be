use Rattle.std.proofs.Common.{rules, ◌≡◌, ◌+◌, ◌<◌, ◌++◌, ◌∙◌, sym, subst, take, length}
use Rattle.plan_due.specs.Planned.{planned}
use Rattle.plan_due.specs.Slices.{own, AreTold}
use Rattle.run_workers.specs.Parts.{as_list}
use Rattle.run_workers.specs.Working.{machine_of}
use Rattle.run_workers.proofs.CarryLemmas.{carry-next}
use Rattle.run_workers.proofs.carrying.carry_out.Goals as goal

pub carry_one-requires-clause-free : goal.carry_one-requires-clause-free
carry_one-requires-clause-free g c κs within = λ h. c.items_unload.ensures (machine_of g.N.Starts.starts) h _ c.loop-number.outcomes.items c.loop-number.token.notes c.loop-number.invariant.0

pub loop-number-preserved : goal.loop-number-preserved
loop-number-preserved g c =
    let i = c.loop-number.invariant in
    let m = machine_of g.N.Starts.starts in
    let n = c.loop-number.number in
    let new = c.carry_one.new.token in
    let few : n < length c.args.items.now = search rules in
    let grown : c.add.new.outcomes.items ≡ c.loop-number.outcomes.items ++ as_list c.in_ok-outcome.outcome = c.in_ok-add.ensures in
    let next = carry-next m n c.args.items.now _ c.loop-number.token new c.loop-number.outcomes.items c.in_ok-outcome.outcome few i.0 c.in_ok-outcome.ensures.carried in (
      subst (λ s. AreTold m (own new.number (planned 0 (take (n + 1) c.args.items.now))) s new.notes) (sym grown) next,
      record { board = c.carry_one.ensures.same.board ∙ i.1.board; number = c.carry_one.ensures.same.number ∙ i.1.number },
    )

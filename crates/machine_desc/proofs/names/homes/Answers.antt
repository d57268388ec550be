use Rattle.std.proofs.Common.{◌+◌, ap, ◌∙◌}
use Rattle.std.proofs.lemmas.List.{length_push}
use Rattle.std.proofs.lemmas.Result.{err_from_is_err_and}
use Rattle.machine_desc.specs.Names.{homes}
use Rattle.machine_desc.proofs.Ranges.{one_more_below, fault_below}
use Rattle.machine_desc.proofs.names.homes.Goals as goal

pub returns-in_err-home-clause-homes : goal.returns-in_err-home-clause-homes
unfolding homes
returns-in_err-home-clause-homes c =
    let p = err_from_is_err_and c.from_residual.result c.from_residual.ensures.1 in
    rw (p.1, p.2) (fault_below _ c.args.count _ c.loop-node.node _ c.loop-node.invariant.0 c.loop-node-test.true c.in_err-home.ensures)

pub loop-node-preserved : goal.loop-node-preserved
loop-node-preserved c = (
  rw c.in_ok-push.ensures.ok (one_more_below _ c.args.count _ c.loop-node.node _ c.loop-node.invariant.0 c.loop-node-test.true c.in_ok-home.ensures),
  rw c.in_ok-push.ensures.ok (length_push c.loop-node.homes c.in_ok-home.field-0 ∙ ap (λ n. n + 1) c.loop-node.invariant.1),
)

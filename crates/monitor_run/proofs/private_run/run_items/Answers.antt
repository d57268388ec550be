use Rattle.std.proofs.Common.{◌∙◌, ◌+◌, ap, sym, drop}
use Rattle.private_machine.specs.PrivateMachine.{PrivateMachine}
use Rattle.private_machine.specs.PrivateRun.{private_run}
use Rattle.monitor_run.specs.Alone.{own_events}
use Rattle.monitor_run.proofs.AloneLemmas.{items-next}
use Rattle.monitor_run.proofs.private_run.run_items.Goals as goal

pub loop-item-preserved : goal.loop-item-preserved
loop-item-preserved c =
    let before = c.loop-item.invariant in
    let guest = c.args.guest in
    let items = c.args.items.now in
    let i = c.loop-item.item-index in
    record {
      count = c.run_item.ensures.count ∙ before.count;
      rest = ap (λ (m : PrivateMachine). private_run m (own_events guest (drop (i + 1) items))) c.in_ok-run_item.ensures.made ∙ sym (items-next guest items i _ c.loop-item.flat c.loop-item-test.true) ∙ before.rest;
    }

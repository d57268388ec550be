use Rattle.std.proofs.lemmas.List.{get_or_default}
use Rattle.machine_desc.proofs.Plain.{one_more_read}
use Rattle.machine_desc.proofs.items.items_of.Goals as goal

pub loop-number-preserved : goal.loop-number-preserved
loop-number-preserved c =
    rw c.in_ok-push.ensures.ok (one_more_read _ c.args.work.now _ c.loop-number.number _ _ c.loop-number.invariant c.loop-number-test.true (get_or_default c.args.work.now c.loop-number.number _ _ c.loop-number-test.true) c.in_ok-item.ensures)

use Rattle.machine_desc.proofs.Inputs.{one_more_list}
use Rattle.machine_desc.proofs.input.lists_in.Goals as goal

pub loop-guest-preserved : goal.loop-guest-preserved
loop-guest-preserved c = rw c.in_ok-push.ensures.ok (one_more_list _ _ _ _ c.loop-guest.invariant c.in_ok-list_for.ensures)

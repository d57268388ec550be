use Rattle.run_balance.proofs.InOrder.{whole_in_order}
use Rattle.run_balance.proofs.laws.whole_shares_stand_in_order.Goals as goal

pub returns : goal.returns
returns c = whole_in_order

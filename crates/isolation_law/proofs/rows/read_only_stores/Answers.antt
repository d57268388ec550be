-- By what the trap says of its instruction.
use Rattle.isolation_law.proofs.rows.read_only_stores.Goals as goal
use Rattle.isolation_law.proofs.StoreActs.{stores-at-hand}

pub returns : goal.returns
returns c s p v word w offset co runs traps leads = stores-at-hand s p v word w offset co.consistent co.mirrors runs traps leads

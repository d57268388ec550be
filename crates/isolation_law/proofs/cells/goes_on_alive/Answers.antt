-- By what a guest that goes on uses.
use Rattle.isolation_law.proofs.cells.goes_on_alive.Goals as goal
use Rattle.isolation_law.proofs.LiveCellProofs.{goes-on-alive, master-lives, used-lives}

pub returns-clause-used : goal.returns-clause-used
returns-clause-used c s x live on has = used-lives s x (goes-on-alive s live on) has

pub returns-clause-master : goal.returns-clause-master
returns-clause-master c s q live on lt = master-lives s q (goes-on-alive s live on) lt

pub returns-clause-loaded : goal.returns-clause-loaded
returns-clause-loaded c s p v live on is = (goes-on-alive s live on).on_processors p v is

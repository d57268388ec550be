use Rattle.plan_due.proofs.FreeLemmas.{told-free}
use Rattle.plan_due.proofs.laws.items_unload.Goals as goal

pub returns : goal.returns
returns c = told-free

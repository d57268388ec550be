-- By the rule on second-level entries.
use Rattle.isolation_law.proofs.rows.second_level_serves.Goals as goal
use Rattle.isolation_law.proofs.SecondServesProofs.{second-serves}

pub returns : goal.returns
returns c s v e w co = second-serves s v e w co.consistent

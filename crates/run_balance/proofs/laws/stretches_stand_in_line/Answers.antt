use Rattle.run_balance.proofs.Lines.{stands_there, stands_within}
use Rattle.run_balance.proofs.laws.stretches_stand_in_line.Goals as goal

pub returns-clause-there : goal.returns-clause-there
returns-clause-there c = stands_there

pub returns-clause-within : goal.returns-clause-within
returns-clause-within c = stands_within

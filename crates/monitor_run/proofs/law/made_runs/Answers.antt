use Rattle.monitor_run.proofs.MadeRuns.{RunsMade-from, PrintsMade-from}
use Rattle.monitor_run.proofs.law.made_runs.Goals as goal

pub returns-clause-load : goal.returns-clause-load
returns-clause-load c = λ w a b x y out status seed answers. RunsMade-from w a b x y out status answers c.made_accepted.ensures seed

pub returns-clause-make : goal.returns-clause-make
returns-clause-make c = λ w a b x y out status seed answers. PrintsMade-from w a b x y out status answers seed

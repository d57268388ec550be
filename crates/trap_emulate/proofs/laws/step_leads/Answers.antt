use Rattle.trap_emulate.proofs.MakeLemmas.{tried-raises, step-ticks}
use Rattle.trap_emulate.proofs.laws.step_leads.Goals as goal

pub returns-clause-raises : goal.returns-clause-raises
returns-clause-raises c m v x e = tried-raises m v x e

pub returns-clause-ticks : goal.returns-clause-ticks
returns-clause-ticks c m v after running off leads = step-ticks m v after running off leads

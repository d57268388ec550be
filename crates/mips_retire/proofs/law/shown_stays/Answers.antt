use Rattle.mips_retire.proofs.ShownLemmas.{shown_by-writes, shown_by-raising, shown_by-ticking, shown_by-system_done}
use Rattle.mips_retire.proofs.law.shown_stays.Goals as goal

pub returns-clause-written : goal.returns-clause-written
returns-clause-written c = shown_by-writes

pub returns-clause-raised : goal.returns-clause-raised
returns-clause-raised c = shown_by-raising

pub returns-clause-ticked : goal.returns-clause-ticked
returns-clause-ticked c = shown_by-ticking

pub returns-clause-system : goal.returns-clause-system
returns-clause-system c vcpu op registers = shown_by-system_done op registers vcpu

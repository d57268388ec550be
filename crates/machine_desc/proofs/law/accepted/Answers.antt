use Rattle.machine_desc.proofs.AcceptedHolds.{description_of-accepted}
use Rattle.machine_desc.proofs.NameFaults.{description_of-told}
use Rattle.machine_desc.proofs.law.accepted.Goals as goal

pub returns-clause-within : goal.returns-clause-within
returns-clause-within c = description_of-accepted

pub returns-clause-told : goal.returns-clause-told
returns-clause-told c = description_of-told

use Rattle.litmus_file.proofs.FileHolds.{litmus_of-within, litmus_of-told}
use Rattle.litmus_file.proofs.law.accepted.Goals as goal

pub returns-clause-within : goal.returns-clause-within
returns-clause-within c = litmus_of-within

pub returns-clause-told : goal.returns-clause-told
returns-clause-told c = litmus_of-told

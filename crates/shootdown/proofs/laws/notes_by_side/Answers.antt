use Rattle.shootdown.proofs.ListLemmas.{with_side-append, with_side-one, with_side-none}
use Rattle.shootdown.proofs.laws.notes_by_side.Goals as goal

pub returns-clause-joined : goal.returns-clause-joined
returns-clause-joined c = with_side-append

pub returns-clause-own : goal.returns-clause-own
returns-clause-own c = with_side-one

pub returns-clause-others : goal.returns-clause-others
returns-clause-others c = with_side-none

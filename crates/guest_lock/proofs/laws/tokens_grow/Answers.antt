use Rattle.guest_lock.proofs.Notes.{with_told-none, with_told-more, shown-told, shown-told-others}
use Rattle.guest_lock.proofs.laws.tokens_grow.Goals as goal

pub returns-clause-none : goal.returns-clause-none
returns-clause-none c = with_told-none

pub returns-clause-more : goal.returns-clause-more
returns-clause-more c = with_told-more

pub returns-clause-own : goal.returns-clause-own
returns-clause-own c = λ token g told. shown-told g token told

pub returns-clause-others : goal.returns-clause-others
returns-clause-others c = λ token g h told ne. shown-told-others g h token told ne

use Rattle.node_frames.proofs.NextLemmas.{finds_next, finds_no_more}
use Rattle.node_frames.proofs.law.alone_finds_next.Goals as goal

pub returns-clause-next : goal.returns-clause-next
returns-clause-next c = finds_next c.holds_and_looks_add_up.ensures.holds

pub returns-clause-none : goal.returns-clause-none
returns-clause-none c = finds_no_more

use Rattle.node_frames.proofs.GainLemmas.{finds_lowest, finds_gains}
use Rattle.node_frames.proofs.law.alone_gains_the_lowest.Goals as goal

pub returns-clause-lowest : goal.returns-clause-lowest
returns-clause-lowest c = finds_lowest c.holds_and_looks_add_up.ensures.holds

pub returns-clause-gains : goal.returns-clause-gains
returns-clause-gains c = finds_gains c.holds_and_looks_add_up.ensures.holds

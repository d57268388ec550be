use Rattle.node_frames.proofs.NextLemmas.{has_falls, has_nothing}
use Rattle.node_frames.proofs.law.has_counts_the_frames_to_come.Goals as goal

pub returns-clause-falls : goal.returns-clause-falls
returns-clause-falls c = has_falls c.holds_and_looks_add_up.ensures.holds

pub returns-clause-nothing : goal.returns-clause-nothing
returns-clause-nothing c = has_nothing

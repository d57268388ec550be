use Rattle.node_frames.proofs.CellLemmas.{cell_nodes-below, cell_falls, cell_nothing}
use Rattle.node_frames.proofs.law.cell_frames_count_the_cache.Goals as goal

pub returns-clause-nodes : goal.returns-clause-nodes
returns-clause-nodes c = cell_nodes-below

pub returns-clause-falls : goal.returns-clause-falls
returns-clause-falls c = cell_falls c.holds_and_looks_add_up.ensures.holds

pub returns-clause-nothing : goal.returns-clause-nothing
returns-clause-nothing c = cell_nothing

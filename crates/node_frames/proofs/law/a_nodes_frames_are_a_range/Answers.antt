use Rattle.node_frames.proofs.GainLemmas.{on_place, place_on, frame_within}
use Rattle.node_frames.proofs.law.a_nodes_frames_are_a_range.Goals as goal

pub returns-clause-on : goal.returns-clause-on
returns-clause-on c = on_place

pub returns-clause-place : goal.returns-clause-place
returns-clause-place c = place_on

pub returns-clause-within : goal.returns-clause-within
returns-clause-within c = frame_within

use Rattle.node_frames.proofs.SeekLemmas.{gives_frame_inside, gives_none_inside}
use Rattle.node_frames.proofs.nodes.seek_inside.Goals as goal

pub returns-in-Some-clause-sought : goal.returns-in-Some-clause-sought
returns-in-Some-clause-sought c =
    gives_frame_inside c.holds_and_looks_add_up.ensures.looks c.holds_and_looks_add_up.ensures.tell _ _ _ _ _ _ _ _ _ _ c.args.shape.now.has_frames c.frames_of-first.ensures.first c.frames_of-first.ensures.last c.requires.inside c.in-Some.ensures.scanned

pub returns-in-None-clause-sought : goal.returns-in-None-clause-sought
returns-in-None-clause-sought c =
    gives_none_inside c.holds_and_looks_add_up.ensures.looks _ _ _ _ _ _ _ _ c.args.shape.now.has_frames c.frames_of-first.ensures.first c.frames_of-first.ensures.last c.in-None.ensures.scanned

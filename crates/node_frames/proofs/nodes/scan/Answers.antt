use Rattle.std.proofs.Common.{◌∙◌}
use Rattle.node_frames.proofs.ScanLemmas.{scans_more}
use Rattle.node_frames.proofs.nodes.scan.Goals as goal

pub loop-number-preserved : goal.loop-number-preserved
loop-number-preserved c = (c.try_frame.ensures.same ∙ c.loop-number.invariant.0, scans_more c.holds_and_looks_add_up.ensures.looks c.holds_and_looks_add_up.ensures.tell _ _ _ _ _ c.loop-number.invariant.1 c.in_default.ensures.tried)

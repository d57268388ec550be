use Rattle.boot_frames.proofs.CountLemmas.{counted-first}
use Rattle.boot_frames.proofs.counts.Counts.all.Goals as goal
use Rattle.node_frames.specs.Layout.{layout_of}

pub returns : goal.returns
returns c = counted-first (layout_of c.args.shape.now) c.args.lends.now c.copy_from_slice.new.self c.copy_from_slice.ensures.after

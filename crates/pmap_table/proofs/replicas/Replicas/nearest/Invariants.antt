use Rattle.std.proofs.Common.{◌≡◌, drop}
use Rattle.pmap_table.specs.NearFrame.{lost_on, near_frame}
use Rattle.pmap_table.specs.Replicas.{copies_in}
use Rattle.pmap_table.proofs.replicas.Replicas.nearest.Given as goal

-- of the nearest so far and the rest the same is the nearest
abbrev pub invariant-loop-place : goal.invariant-loop-place
invariant-loop-place l =
    near_frame l.shape.frames (lost_on l.shape l.dead) l.node.0 l.nearest.0 (copies_in (drop l.place-index l.place-items))
    ≡ near_frame l.shape.frames (lost_on l.shape l.dead) l.node.0 l.fn.master.0 (copies_in l.place-items)

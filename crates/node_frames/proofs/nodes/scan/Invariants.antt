use Rattle.std.proofs.Common.{◌≡◌}
use Rattle.node_frames.specs.Scans.{ScansAll}
use Rattle.node_frames.proofs.nodes.scan.Given as goal

abbrev pub invariant-loop-number : goal.invariant-loop-number
invariant-loop-number l = (l.holder.table ≡ l.initial.holder.table) × ScansAll l.first l.number l.initial.holder.view l.holder.view

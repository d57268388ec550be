use Rattle.std.proofs.Common.{◌≡◌, ◌==◌}
use Rattle.std.specs.Prelude.{filter}
use Rattle.base_words.specs.declared.ids.NodeId.{NodeId}
use Rattle.node_frames.specs.Layout.{layout_of}
use Rattle.node_frames.specs.Places.{cell_of_node}
use Rattle.node_frames.specs.BootOrder.{nodes_below}
use Rattle.boot_frames.proofs.claims.cell_order.Given as goal

abbrev pub invariant-loop-number : goal.invariant-loop-number
invariant-loop-number l = l.nodes.items ≡ filter (λ (n : NodeId). cell_of_node (layout_of l.shape) n.0 == l.cell.0) (nodes_below l.number)

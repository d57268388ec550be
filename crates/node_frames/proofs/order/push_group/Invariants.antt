use Rattle.std.proofs.Common.{◌≡◌, ◌++◌}
use Rattle.std.specs.Prelude.{filter}
use Rattle.node_frames.specs.BootOrder.{nodes_below}
use Rattle.node_frames.specs.Groups.{is_in}
use Rattle.node_frames.proofs.order.push_group.Given as goal
use Rattle.node_frames.specs.Layout.{layout_of}

abbrev pub invariant-loop-number : goal.invariant-loop-number
invariant-loop-number l = l.nodes.items ≡ l.initial.nodes.items ++ filter (is_in l.group (layout_of l.shape) l.home.0) (nodes_below l.number)

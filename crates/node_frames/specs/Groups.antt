-- The two groups of nodes that follow the home node in the boot order.
use Rattle.std.specs.Prelude.{ℕ, Bool, List, filter}
use Rattle.node_frames.specs.Layout.{Layout}
use Rattle.base_words.specs.declared.ids.NodeId.{NodeId}
use Rattle.node_frames.specs.BootOrder.{nodes_below, is_near, is_far}
use Rattle.node_frames.specs.declared.order.Group.{Group}
use Rattle.node_frames.specs.declared.order.Group.TheVariants.{SameCell, OtherCells}

-- whether a node is one of the group
abbrev pub is_in : Group → Layout → ℕ → NodeId → Bool
is_in SameCell = is_near
is_in OtherCells = is_far

-- the nodes of a group, in order
abbrev pub group_nodes : Group → Layout → ℕ → List NodeId
group_nodes group layout home = filter (is_in group layout home) (nodes_below layout.nodes)

-- The order in which nodes are asked for a guest's frames: its home node, the other nodes of the home cell by number,
-- then the nodes of other cells by number.
use Rattle.std.specs.Prelude.{ℕ, zero, suc, ◌==◌, ◌&&◌, Bool, not, List, [], ◌∷◌, ◌++◌, filter}
use Rattle.node_frames.specs.Layout.{Layout}
use Rattle.base_words.specs.declared.ids.NodeId.{NodeId}
use Rattle.node_frames.specs.Places.{cell_of_node}

-- the nodes below a number, in order
abbrev pub nodes_below : ℕ → List NodeId
nodes_below zero = []
nodes_below (suc n) = nodes_below n ++ record { 0 = n } ∷ []

-- whether a node is another node of the home node's cell
abbrev pub is_near : Layout → ℕ → NodeId → Bool
is_near layout home n = (cell_of_node layout n.0 == cell_of_node layout home) && not (n.0 == home)

-- whether it is a node of another cell
abbrev pub is_far : Layout → ℕ → NodeId → Bool
is_far layout home n = not (cell_of_node layout n.0 == cell_of_node layout home)

abbrev pub boot_nodes : Layout → NodeId → List NodeId
boot_nodes layout home =
    home ∷ (filter (is_near layout home.0) (nodes_below layout.nodes) ++ filter (is_far layout home.0) (nodes_below layout.nodes))

-- the nodes of a cell, by number
abbrev pub cell_nodes : Layout → ℕ → List NodeId
cell_nodes layout cell = filter (λ (n : NodeId). cell_of_node layout n.0 == cell) (nodes_below layout.nodes)

-- What stands around a guest, and never changes: how the machine lies, and what was told of the guest.
use Rattle.std.specs.Prelude.{ℕ, List, slice_index}
use Rattle.base_words.specs.declared.moves.Policy.{Policy}
use Rattle.private_machine.specs.Backing.{node_of_frame}

-- the guest's number, profile and home node, how many frames a node has, the cell of each node, the node of each processor, the home
-- cell of each guest, and the policy
pub record Surroundings : Type 0 where
  pub guest : ℕ
  pub profile : ℕ
  pub home : ℕ
  pub frames : ℕ
  pub nodes : List ℕ
  pub processors : List ℕ
  pub homes : List ℕ
  pub policy : Policy

abbrev pub cell_of_node : Surroundings → ℕ → ℕ
cell_of_node w node = slice_index w.nodes node

abbrev pub cell_of_frame : Surroundings → ℕ → ℕ
cell_of_frame w frame = cell_of_node w (node_of_frame w.frames frame)

abbrev pub node_of_processor : Surroundings → ℕ → ℕ
node_of_processor w p = slice_index w.processors p

abbrev pub cell_of_processor : Surroundings → ℕ → ℕ
cell_of_processor w p = cell_of_node w (node_of_processor w p)

abbrev pub home_cell : Surroundings → ℕ
home_cell w = cell_of_node w w.home

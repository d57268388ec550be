-- How a machine's frames lie, as numbers alone.
use Rattle.std.specs.Prelude.{◌≡◌, ℕ, ◌<◌, ◌≤◌, List, length}
use Rattle.base_words.specs.declared.frame.Shape.{Shape}
use Rattle.base_words.specs.declared.ids.CellId.{CellId}

-- the nodes, the frames of each, and the cell of each node
pub record Layout : Type 0 where
  pub nodes : ℕ
  pub frames : ℕ
  pub cells : List CellId

abbrev pub layout_of : Shape → Layout
layout_of shape = record { nodes = shape.nodes; frames = shape.frames; cells = shape.cells }

-- there are at most eight nodes, each with frames and a cell
pub record IsLayout (layout : Layout) : Type 0 where
  pub few_nodes : layout.nodes ≤ 8
  pub has_frames : 0 < layout.frames
  pub has_cells : length layout.cells ≡ layout.nodes

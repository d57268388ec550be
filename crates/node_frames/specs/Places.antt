-- Which node and which cell a frame lies on, and which frames a search may take without a loan.
use Rattle.std.specs.Prelude.{◌≡◌, ◌≢◌, ℕ, ◌*◌, ◌/◌, ◌<◌, ◌==◌, ◌&&◌, Bool, not, if◌then◌else◌, List, length, slice_index_or, All}
use Rattle.node_frames.specs.Layout.{Layout, IsLayout}
use Rattle.base_words.specs.declared.ids.CellId.{CellId}
use Rattle.base_words.specs.declared.ids.NodeId.{NodeId}
use Rattle.frame_words.specs.FrameWords.{cell_word}
use Rattle.frame_words.specs.Views.{holding}
use Rattle.frame_words.specs.Holders.{MadeTable}
use Rattle.frame_words.specs.declared.view.View.{View}

-- the frame lies on the node
abbrev pub IsOn : Layout → ℕ → ℕ → Type 0
IsOn layout node frame = frame / layout.frames ≡ node

-- the node's cell
abbrev pub cell_of_node : Layout → ℕ → ℕ
cell_of_node layout node = (slice_index_or layout.cells node (record { 0 = 0 })).0

-- the node lies outside the home cell, so each of its frames takes a loan
abbrev pub IsOutside : Layout → ℕ → ℕ → Type 0
IsOutside layout home node = cell_of_node layout node ≢ home

-- a frame of this number takes a loan of this cell: it lies in the cell, outside home
abbrev pub takes_loan : Layout → ℕ → ℕ → ℕ → Bool
takes_loan layout home number cell = (cell_of_node layout (number / layout.frames) == cell) && not (cell == home)

-- the view with the loan that a frame of this node takes
abbrev pub paying : Layout → ℕ → ℕ → View → View
paying layout home node v = if cell_of_node layout node == home then v else holding v (cell_word (cell_of_node layout node)) 0

-- the table has the layout's frames, and a lend for each of its cells
pub record FitsShape (table : MadeTable) (layout : Layout) : Type 0 where
  pub lies : IsLayout layout
  pub frames : table.terms.frames ≡ layout.nodes * layout.frames
  pub cells : All (λ (c : CellId). c.0 < length table.terms.lends) layout.cells

-- each node of the order is one of the layout's
abbrev pub AreNodes : Layout → List NodeId → Type 0
AreNodes layout order = All (λ (n : NodeId). n.0 < layout.nodes) order

-- How many loans of each cell frames take: one for each frame that lies outside the home cell.
use Rattle.std.specs.Prelude.{ℕ, ◌/◌, ◌==◌, ◌&&◌, Bool, not, List, map, count_by}
use Rattle.std.specs.List.{range_with_len}
use Rattle.base_words.specs.declared.frame.Frame.{Frame}
use Rattle.node_frames.specs.Layout.{Layout}
use Rattle.node_frames.specs.Places.{cell_of_node}

-- the cell in which a frame lies
abbrev pub cell_of_frame : Layout → Frame → ℕ
cell_of_frame layout frame = cell_of_node layout (frame.number.0 / layout.frames)

-- the frame takes a loan of this cell
abbrev pub is_lent : Layout → ℕ → ℕ → Frame → Bool
is_lent layout home cell frame = (cell_of_frame layout frame == cell) && not (cell == home)

-- the loans of one cell
abbrev pub loans_in : Layout → ℕ → List Frame → ℕ → ℕ
loans_in layout home frames cell = count_by (is_lent layout home cell) frames

-- the loans of each of eight cells
abbrev pub loans_of : Layout → ℕ → List Frame → List ℕ
loans_of layout home frames = map (loans_in layout home frames) (range_with_len 0 8)

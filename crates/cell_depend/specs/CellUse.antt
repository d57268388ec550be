-- Which cells a guest uses: counted from the frames by which it does, the masters, the targets of moves and the spares, and from
-- the processors on which it runs. A replica ties a guest to no cell.
use Rattle.std.specs.Prelude.{◌≡◌, ◌⊎◌, ℕ, ◌+◌, ◌/◌, ◌==◌, Bool, true, false, List, Contains, Option, Some, None, slice_get, count_by}
use Rattle.base_words.specs.declared.frame.Shape.{Shape}
use Rattle.base_words.specs.declared.ids.CellId.{CellId}
use Rattle.base_words.specs.declared.ids.FrameNo.{FrameNo}

-- by what a guest uses cells: the frames of its masters, targets and spares, and the cells of the processors with a loaded virtual
-- processor of it
pub record Rows : Type 0 where
  pub frames : List FrameNo
  pub loaded : List CellId

-- the cell on a node of which a frame lies, where the machine has the frame
abbrev pub cell_of : Shape → FrameNo → Option CellId
cell_of shape frame = slice_get shape.cells (frame.0 / shape.frames)

-- A guest uses a cell where one of these frames lies on a node of the cell, or a virtual processor of it is loaded on a
-- processor of the cell.
abbrev pub IsUsed : Shape → Rows → CellId → Type 0
IsUsed shape rows cell = ((frame : FrameNo) × Contains rows.frames frame × (cell_of shape frame ≡ Some cell)) ⊎ Contains rows.loaded cell

-- this is the cell of that number
abbrev pub is_cell : ℕ → CellId → Bool
is_cell number cell = cell.0 == number

abbrev pub is_some_cell : ℕ → Option CellId → Bool
is_some_cell number None = false
is_some_cell number (Some cell) = is_cell number cell

-- a frame lies on a node of the cell of this number
abbrev pub lies_in : Shape → ℕ → FrameNo → Bool
lies_in shape number frame = is_some_cell number (cell_of shape frame)

-- one, or none
abbrev pub one_if : Bool → ℕ
one_if true = 1
one_if false = 0

-- how many frames lie on the nodes of a cell
abbrev pub frames_in : Shape → ℕ → List FrameNo → ℕ
frames_in shape number frames = count_by (lies_in shape number) frames

-- how many processors with a loaded virtual processor lie in a cell
abbrev pub vcpus_in : ℕ → List CellId → ℕ
vcpus_in number loaded = count_by (is_cell number) loaded

-- the plain count
abbrev pub use_from_rows : Shape → ℕ → Rows → ℕ
use_from_rows shape number rows = frames_in shape number rows.frames + vcpus_in number rows.loaded

-- The counters of the cells that a guest uses, against the guest's state.
use Rattle.std.specs.Prelude.{◌≡◌, ℕ, ◌+◌, List, [], ◌∷◌, ◌++◌, length, map, Option, Some, None}
use Rattle.base_words.specs.Limits.{most_cells}
use Rattle.base_words.specs.declared.frame.Shape.{Shape}
use Rattle.base_words.specs.declared.ids.CellId.{CellId}
use Rattle.base_words.specs.declared.ids.FrameNo.{FrameNo}
use Rattle.cell_depend.specs.CellUse.{Rows}
use Rattle.cell_depend.specs.Counters.{UsesState, AreCounts}
use Rattle.private_machine.specs.Backing.{Copy}
use Rattle.isolation_law.specs.CellUse.{used_frames}
use Rattle.isolation_law.specs.GuestState.{GuestState}
use Rattle.isolation_law.specs.Parts.{Processor}
use Rattle.isolation_law.specs.Surroundings.{Surroundings, cell_of_processor}

-- the frame in which a copy of a page lies
abbrev pub frame_of : Copy → FrameNo
frame_of c = record { 0 = c.frame }

-- the cell of a processor, if this is something that is loaded on it
abbrev pub cell_with : ℕ → Option ℕ → List CellId
cell_with cell None = []
cell_with cell (Some v) = record { 0 = cell } ∷ []

-- the cells of those of these processors, counted from p, on which something is loaded
abbrev pub loaded_cells : Surroundings → ℕ → List Processor → List CellId
loaded_cells w p [] = []
loaded_cells w p (x ∷ processors) = cell_with (cell_of_processor w p) x.loaded ++ loaded_cells w (p + 1) processors

-- what a guest's use of cells is counted from: each frame by which it uses one, and the cell of each processor with something of it loaded
abbrev pub rows_of : GuestState → Rows
rows_of s = record { frames = map frame_of (used_frames s); loaded = loaded_cells s.around 0 s.processors }

-- the shape of the machine, as a guest is told of it
pub record IsShapeOf (w : Surroundings) (shape : Shape) : Type 0 where
  pub frames : shape.frames ≡ w.frames
  pub cells : map (λ c. c.0) shape.cells ≡ w.nodes

-- eight cells are counted, as many as a machine has at most, and each counter is the plain count, on the machine around the guest
pub record AreUses (s : GuestState) (uses : UsesState) : Type 0 where
  pub shape : Shape
  pub told : IsShapeOf s.around shape
  pub cells : length uses.counts ≡ most_cells
  pub counts : AreCounts shape (rows_of s) uses

-- the same for a guest that uses these copies, and what is loaded
pub record CountsCopies (s : GuestState) (copies : List Copy) (uses : UsesState) : Type 0 where
  pub shape : Shape
  pub told : IsShapeOf s.around shape
  pub cells : length uses.counts ≡ most_cells
  pub counts : AreCounts shape (record { frames = map frame_of copies; loaded = loaded_cells s.around 0 s.processors }) uses

-- The cells that have failed, and the frames that are lost with them.
use Rattle.std.specs.Prelude.{ℕ, Bool, false, List, Option, Some, None, map, slice_index, slice_index_or}
use Rattle.base_words.specs.declared.frame.Shape.{Shape}
use Rattle.private_machine.specs.Backing.{node_of_frame}
use Rattle.isolation_law.specs.Start.{no_cells}

-- the cells that have failed, once one has
abbrev pub dead_cells : Option (List Bool) → List Bool
dead_cells None = no_cells
dead_cells (Some cells) = cells

-- the frames that lie in them, on a machine of this shape
abbrev pub lost_in : Shape → Option (List Bool) → ℕ → Bool
lost_in shape dead frame = slice_index_or (dead_cells dead) (slice_index (map (λ c. c.0) shape.cells) (node_of_frame shape.frames frame)) false

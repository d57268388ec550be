-- The blocks of disks that guests share on a cell.
use Rattle.std.specs.Prelude.{◌≡◌, ℕ, ◌<◌, List, [], All, slice_index_or}
use Rattle.cow_disk.specs.IndexView.{Cached, Index}
use Rattle.isolation_law.specs.Surroundings.{Surroundings, cell_of_frame}
use Rattle.guest_core.specs.Holding.{frames_around}

abbrev pub no_index : Index
no_index = record { entries = []; frames = [] }

-- those of a cell, by the indexes of all cells
abbrev pub blocks_of : List Index → ℕ → List Cached
blocks_of indexes cell = (slice_index_or indexes cell no_index).entries

-- a block lies in a frame of the machine, on this cell
pub record LiesOnCell (w : Surroundings) (cell : ℕ) (block : Cached) : Type 0 where
  pub within : block.copy.frame < frames_around w
  pub on_cell : cell_of_frame w block.copy.frame ≡ cell

abbrev pub LieOnCell : Surroundings → ℕ → List Cached → Type 0
LieOnCell w cell blocks = All (LiesOnCell w cell) blocks

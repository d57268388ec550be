-- The counters of a guest's use of cells, and when they are those of its rows.
use Rattle.std.specs.Prelude.{◌≡◌, ℕ, ◌+◌, ◌-◌, ◌<◌, List, length, map, Bool, true, false, replicate, slice_index_or, slice_set}
use Rattle.base_words.specs.Limits.{most_cells}
use Rattle.base_words.specs.declared.frame.Shape.{Shape}
use Rattle.cell_depend.specs.declared.uses.CellCount.{CellCount}
use Rattle.cell_depend.specs.CellUse.{Rows, frames_in, vcpus_in}

-- for each cell its counts, and the cells that have failed
pub record UsesState : Type 0 where
  pub counts : List CellCount
  pub dead : List Bool

-- no frame, and no virtual processor
abbrev pub no_use : CellCount
no_use = record { frames = 0; vcpus = 0 }

-- the counters of so many cells at the start
abbrev pub unused : ℕ → UsesState
unused cells = record { counts = replicate cells no_use; dead = replicate most_cells false }

-- the counts of a cell
abbrev pub count_at : UsesState → ℕ → CellCount
count_at uses cell = slice_index_or uses.counts cell no_use

abbrev pub total : CellCount → ℕ
total count = count.frames + count.vcpus

-- the counts of a cell become others
abbrev pub with_count : UsesState → ℕ → CellCount → UsesState
with_count uses cell count = record uses { counts = slice_set uses.counts cell count }

-- one frame more, or less, on the nodes of a cell
abbrev pub with_frame : UsesState → ℕ → UsesState
with_frame uses cell = with_count uses cell (record (count_at uses cell) { frames = (count_at uses cell).frames + 1 })

abbrev pub without_frame : UsesState → ℕ → UsesState
without_frame uses cell = with_count uses cell (record (count_at uses cell) { frames = (count_at uses cell).frames - 1 })

-- no frame on the nodes of any cell
abbrev pub without_frames : UsesState → UsesState
without_frames uses = record uses { counts = map (λ (count : CellCount). record count { frames = 0 }) uses.counts }

-- one loaded virtual processor more, or less, on the processors of a cell
abbrev pub with_vcpu : UsesState → ℕ → UsesState
with_vcpu uses cell = with_count uses cell (record (count_at uses cell) { vcpus = (count_at uses cell).vcpus + 1 })

abbrev pub without_vcpu : UsesState → ℕ → UsesState
without_vcpu uses cell = with_count uses cell (record (count_at uses cell) { vcpus = (count_at uses cell).vcpus - 1 })

-- a cell has failed
abbrev pub with_dead : UsesState → ℕ → UsesState
with_dead uses cell = record uses { dead = slice_set uses.dead cell true }

-- each counter is the plain count of the rows
pub record AreCounts (shape : Shape) (rows : Rows) (uses : UsesState) : Type 0 where
  pub frames : (cell : ℕ) → cell < length uses.counts → (count_at uses cell).frames ≡ frames_in shape cell rows.frames
  pub vcpus : (cell : ℕ) → cell < length uses.counts → (count_at uses cell).vcpus ≡ vcpus_in cell rows.loaded

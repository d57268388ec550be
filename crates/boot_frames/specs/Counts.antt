-- What is left of the machine by numbers that are kept for eight nodes and eight cells.
use Rattle.std.specs.Prelude.{◌<◌, All, slice_index, slice_index_or}
use Rattle.node_frames.specs.Layout.{Layout}
use Rattle.base_words.specs.declared.ids.CellId.{CellId}
use Rattle.node_frames.specs.Left.{Left}
use Rattle.boot_frames.specs.declared.counts.Counts.{Counts}

-- what is left by these counts; a node past them has all its frames, and a cell past them lends none
abbrev pub counted_left : Layout → Counts → Left
counted_left layout counts = record {
  frames = λ node. slice_index_or counts.frames node layout.frames;
  loans = λ cell. slice_index counts.loans cell;
}

-- there is a count for each cell in which a node lies
abbrev pub AreCounted : Layout → Type 0
AreCounted layout = All (λ (cell : CellId). cell.0 < 8) layout.cells

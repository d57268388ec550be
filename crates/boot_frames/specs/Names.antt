-- Whom a shortage names, of so many cells with a cache of so many frames each and then of these guests.
use Rattle.std.specs.Prelude.{◌≡◌, ℕ, ◌<◌, ◌≤◌, List, slice_get, Some}
use Rattle.node_frames.specs.Layout.{Layout}
use Rattle.base_words.specs.declared.ids.CellId.{CellId}
use Rattle.base_words.specs.declared.ids.GuestId.{GuestId}
use Rattle.node_frames.specs.Left.{Left, cell_frames}
use Rattle.boot_frames.specs.declared.needs.Need.{Need}

-- each of the first cells has enough frames on its own nodes
abbrev pub HaveCaches : Layout → ℕ → ℕ → Left → Type 0
HaveCaches layout cells cache left = (cell : ℕ) → cell < cells → cache ≤ cell_frames layout left cell

-- the first cell whose own nodes have too few frames for its cache
pub record NamesCell (layout : Layout) (cells cache : ℕ) (left : Left) (cell : CellId) (frames has : ℕ) : Type 0 where
  pub within : cell.0 < cells
  pub needs : frames ≡ cache
  pub free : has ≡ cell_frames layout left cell.0
  pub few : has < cache
  pub lower : HaveCaches layout cell.0 cache left

-- a guest that needs more frames than it has, where each cell has its cache
pub record NamesGuest (layout : Layout) (cells cache : ℕ) (needs : List Need) (left : Left) (guest : GuestId) (pages has : ℕ) : Type 0 where
  pub need : Need
  pub there : slice_get needs guest.0 ≡ Some need
  pub needs_are : need.pages ≡ pages
  pub few : has < pages
  pub caches : HaveCaches layout cells cache left

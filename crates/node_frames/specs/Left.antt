-- What is left to a holder that is alone: the free frames of each node and the loans of each cell.
-- How many frames a guest gets of it, and what is left when one is taken, are counted from these numbers alone.
use Rattle.std.specs.Prelude.{ℕ, zero, suc, ◌+◌, ◌-◌, ◌*◌, ◌==◌, min, ◌&&◌, ◌||◌, Bool, not, if◌then◌else◌, List, Option, Some, None, find, slice_index}
use Rattle.node_frames.specs.Layout.{Layout}
use Rattle.base_words.specs.declared.ids.NodeId.{NodeId}
use Rattle.frame_words.specs.FrameWords.{frame_word}
use Rattle.frame_words.specs.Views.{frame_holds, cell_loans}
use Rattle.frame_words.specs.declared.view.View.{View}
use Rattle.node_frames.specs.Places.{cell_of_node}

-- a number of each of those below a bound, added up
abbrev pub sum_below : (ℕ → ℕ) → ℕ → ℕ
sum_below f zero = 0
sum_below f (suc n) = sum_below f n + f n

pub record Left : Type 0 where
  -- by node
  pub frames : ℕ → ℕ
  -- by cell
  pub loans : ℕ → ℕ

-- a view that is alone can take the frame: it doesn't hold it, and the frame has a generation left
abbrev pub is_free : View → ℕ → Bool
is_free v frame = (frame_holds v frame == 0) && not (slice_index v.known (frame_word frame) == 4294967295)

-- what is left to a view that is alone
abbrev pub left_of : Layout → List ℕ → View → Left
left_of layout lends v = record {
  frames = λ node. sum_below (λ k. if is_free v (node * layout.frames + k) then 1 else 0) layout.frames;
  loans = λ cell. slice_index lends cell - cell_loans v cell;
}

-- what is left at first: each frame of each node, and all that each cell lends
abbrev pub first_left : Layout → List ℕ → Left
first_left layout lends = record { frames = λ node. layout.frames; loans = λ cell. slice_index lends cell }

-- the free frames of a cell's nodes: what the cell's cache has
abbrev pub cell_frames : Layout → Left → ℕ → ℕ
cell_frames layout left cell = sum_below (λ node. if cell_of_node layout node == cell then left.frames node else 0) layout.nodes

-- what a cell gives to a guest of this home cell: its free frames, and outside the home cell no more than its loans
abbrev pub cell_gives : Layout → ℕ → Left → ℕ → ℕ
cell_gives layout home left cell =
    if cell == home then cell_frames layout left cell else min (cell_frames layout left cell) (left.loans cell)

-- what a guest of this home cell has: what each of up to eight cells gives
unfoldable pub has : Layout → ℕ → Left → ℕ
has layout home left = sum_below (cell_gives layout home left) 8

-- the node gives a frame to a guest of this home cell
abbrev pub node_gives : Layout → ℕ → Left → ℕ → Bool
node_gives layout home left node =
    not (left.frames node == 0) && ((cell_of_node layout node == home) || not (left.loans (cell_of_node layout node) == 0))

-- the first node of an order that gives one
abbrev pub first_giving : Layout → ℕ → Left → List NodeId → Option NodeId
first_giving layout home left order = find (λ (n : NodeId). node_gives layout home left n.0) order

-- the numbers with one less at this place
abbrev pub one_less : (ℕ → ℕ) → ℕ → ℕ → ℕ
one_less f place n = if n == place then f n - 1 else f n

-- what is left when a guest of this home cell takes a frame of this node
abbrev pub taking : Layout → ℕ → Left → ℕ → Left
taking layout home left node = record {
  frames = one_less left.frames node;
  loans = if cell_of_node layout node == home then left.loans else one_less left.loans (cell_of_node layout node);
}

-- what is left when the node that gives a frame is known, or none gives one
abbrev pub left_by : Layout → ℕ → Left → Option NodeId → Left
left_by layout home left None = left
left_by layout home left (Some node) = taking layout home left node.0

-- what is left after a search by an order, and after so many
abbrev pub after_search : Layout → ℕ → List NodeId → Left → Left
after_search layout home order left = left_by layout home left (first_giving layout home left order)

abbrev pub after_searches : Layout → ℕ → List NodeId → ℕ → Left → Left
after_searches layout home order zero left = left
after_searches layout home order (suc n) left = after_search layout home order (after_searches layout home order n left)

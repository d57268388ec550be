-- What a search by a holder that is alone answers, by what is left to it, and what the holder gains.
use Rattle.std.specs.Prelude.{◌≡◌, ◌≢◌, ℕ, ◌+◌, ◌/◌, ◌<◌, ◌==◌, true, if◌then◌else◌, List, Some, None, Contains, slice_index}
use Rattle.node_frames.specs.Layout.{Layout}
use Rattle.base_words.specs.declared.ids.NodeId.{NodeId}
use Rattle.frame_words.specs.FrameWords.{frame_word}
use Rattle.frame_words.specs.Views.{hold, frame_holds, cell_loans}
use Rattle.frame_words.specs.Splits.{HasLoan}
use Rattle.frame_words.specs.Refusals.{IsOwn}
use Rattle.frame_words.specs.declared.view.Hold.{Hold}
use Rattle.frame_words.specs.declared.view.View.{View}
use Rattle.node_frames.specs.Places.{IsOn, cell_of_node, IsOutside, takes_loan}
use Rattle.node_frames.specs.Left.{left_of, first_giving, taking, after_search}

-- the frame lies on the first node of the order that gives one, which gives one less from now on
pub record FindsNext (layout : Layout) (lends : List ℕ) (home : ℕ) (order : List NodeId) (number : ℕ) (v w : View) : Type 0 where
  pub node : NodeId
  pub within : node.0 < layout.nodes
  pub on : IsOn layout node.0 number
  pub next : first_giving layout home (left_of layout lends v) order ≡ Some node
  pub after : left_of layout lends w ≡ taking layout home (left_of layout lends v) node.0
  pub chained : left_of layout lends w ≡ after_search layout home order (left_of layout lends v)
  pub alone : w.alone ≡ true

-- no node of the order gives one, and as much is left as before
pub record FindsNoMore (layout : Layout) (lends : List ℕ) (home : ℕ) (order : List NodeId) (v w : View) : Type 0 where
  pub none : first_giving layout home (left_of layout lends v) order ≡ None
  pub after : left_of layout lends w ≡ left_of layout lends v
  pub alone : w.alone ≡ true

-- the frame is the lowest of its node that the view can take: the view doesn't hold it, and its generation isn't the last;
-- each lower one of the node is its own or spent
pub record IsLowest (layout : Layout) (number : ℕ) (v : View) : Type 0 where
  pub unheld : frame_holds v number ≡ 0
  pub fresh : slice_index v.known (frame_word number) < 4294967295
  pub lower : (frame : ℕ) → frame < number → IsOn layout (number / layout.frames) frame → IsOwn v (frame_word frame)

-- what the view gains: one hold of the frame, under its next generation, and one loan of its cell exactly outside home;
-- all else is held and known as before
pub record Gains (layout : Layout) (home number generation : ℕ) (v w : View) : Type 0 where
  pub frames : (frame : ℕ) → frame_holds w frame ≡ (if number == frame then 1 else 0) + frame_holds v frame
  pub loans : (cell : ℕ) → cell < 8 → cell_loans w cell ≡ (if takes_loan layout home number cell then 1 else 0) + cell_loans v cell
  pub under : Contains w.holds (hold (frame_word number) generation)
  pub lent : IsOutside layout home (number / layout.frames) → HasLoan w.holds (cell_of_node layout (number / layout.frames))
  pub stays : (h : Hold) → Contains v.holds h → Contains w.holds h
  pub next : generation ≡ slice_index v.known (frame_word number) + 1
  pub known : (frame : ℕ) → frame ≢ number → slice_index w.known (frame_word frame) ≡ slice_index v.known (frame_word frame)

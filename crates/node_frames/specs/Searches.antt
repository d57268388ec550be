-- What a search for a frame answers: by the looks of this call, its tail, and the view after.
use Rattle.std.specs.Prelude.{◌≡◌, ℕ, ◌+◌, ◌<◌, ◌/◌, true, List, length, slice_get, slice_index, Some}
use Rattle.node_frames.specs.Layout.{Layout}
use Rattle.base_words.specs.declared.ids.NodeId.{NodeId}
use Rattle.frame_words.specs.FrameWords.{cell_word, frame_word}
use Rattle.frame_words.specs.Views.{frame_holds, cell_loans}
use Rattle.frame_words.specs.Taking.{Takes, GivesUp}
use Rattle.frame_words.specs.Tails.{looked, GainNothing}
use Rattle.frame_words.specs.Refusals.{Refuses, IsOwn}
use Rattle.frame_words.specs.declared.view.Look.{Look}
use Rattle.frame_words.specs.declared.view.View.{View}
use Rattle.frame_words.specs.declared.view.StepKind.TheVariants.{GiveBack, Repay}
use Rattle.node_frames.specs.Places.{IsOn, cell_of_node, IsOutside, paying}
use Rattle.node_frames.specs.Entries.{Shows, Owns}
use Rattle.node_frames.specs.declared.answers.Shown.{Shown}
use Rattle.node_frames.specs.declared.answers.FindFault.{FindFault}
use Rattle.node_frames.specs.declared.answers.FindFault.TheVariants.{Memory, NoFrame}

-- no node of the order gave a frame: the view is as before, but for looks that gain nothing,
-- and each node of the order has its entry in the list
pub record FindsNone (layout : Layout) (lends : List ℕ) (home : ℕ) (order : List NodeId)
    (list : List Shown) (v w : View) : Type 0 where
  pub tail : List Look
  pub after : w ≡ looked v tail
  pub nothing : GainNothing tail
  pub entries : length list ≡ length order
  pub shown : (k : ℕ) (node : NodeId) (entry : Shown) → slice_get order k ≡ Some node → slice_get list k ≡ Some entry
      → Shows layout lends home node.0 entry tail
  pub own : v.alone ≡ true → (k : ℕ) (node : NodeId) (entry : Shown) → slice_get order k ≡ Some node
      → slice_get list k ≡ Some entry → Owns layout lends node.0 entry v

-- the first frame that could be taken, by the order and by number: each earlier node showed why it gives none,
-- and each lower frame of its node was held or spent
pub record Finds (layout : Layout) (lends : List ℕ) (home : ℕ) (order : List NodeId)
    (number generation : ℕ) (v w : View) : Type 0 where
  pub place : ℕ
  pub node : NodeId
  pub tail : List Look
  pub ordered : slice_get order place ≡ Some node
  pub on : IsOn layout node.0 number
  pub nothing : GainNothing tail
  pub earlier : (k : ℕ) (other : NodeId) → k < place → slice_get order k ≡ Some other
      → (entry : Shown) × Shows layout lends home other.0 entry tail × (v.alone ≡ true → Owns layout lends other.0 entry v)
  pub lower : (frame : ℕ) → frame < number → IsOn layout node.0 frame → Refuses tail (frame_word frame)
  pub own : v.alone ≡ true → (frame : ℕ) → frame < number → IsOn layout node.0 frame
      → IsOwn v (frame_word frame)
  pub took : Takes (looked (paying layout home node.0 v) tail) (frame_word number) generation w
  pub once : frame_holds w number ≡ 1
  pub paid : IsOutside layout home node.0
      → cell_loans w (cell_of_node layout node.0) ≡ cell_loans v (cell_of_node layout node.0) + 1
  pub below : v.alone ≡ true → IsOutside layout home node.0
      → cell_loans v (cell_of_node layout node.0) < slice_index lends (cell_of_node layout node.0)

-- a search that answers no frame
abbrev pub RefusedBy : Layout → List ℕ → ℕ → List NodeId → FindFault → View → View → Type 0
RefusedBy layout lends home order Memory v w = w ≡ v
RefusedBy layout lends home order (NoFrame list) v w = FindsNone layout lends home order list v w

-- the frame is given back, and its loan repaid where it lies outside home
pub record Releases (layout : Layout) (home frame : ℕ) (v w : View) : Type 0 where
  pub between : View
  pub given : GivesUp v GiveBack (frame_word frame) between
  pub inside : cell_of_node layout (frame / layout.frames) ≡ home → w ≡ between
  pub outside : IsOutside layout home (frame / layout.frames)
      → GivesUp between Repay (cell_word (cell_of_node layout (frame / layout.frames))) w

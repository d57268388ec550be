-- What a search over the frames of one node answers, and what one over the node with its loan.
use Rattle.std.specs.Prelude.{◌≡◌, ℕ, ◌+◌, ◌<◌, ◌≤◌, true, List, Option, Some, None, Result, Ok, Err, slice_index}
use Rattle.node_frames.specs.Layout.{Layout}
use Rattle.frame_words.specs.FrameWords.{frame_word}
use Rattle.frame_words.specs.Views.{cell_loans}
use Rattle.frame_words.specs.Taking.{Takes}
use Rattle.frame_words.specs.Tails.{looked, AreLoads, GainNothing, borrows_of, repays_of}
use Rattle.frame_words.specs.Refusals.{Refuses, IsOwn}
use Rattle.frame_words.specs.declared.view.Look.{Look}
use Rattle.frame_words.specs.declared.view.View.{View}
use Rattle.node_frames.specs.Places.{IsOn, cell_of_node, IsOutside, paying}
use Rattle.node_frames.specs.Entries.{Shows, Owns}
use Rattle.node_frames.specs.declared.taken.Taken.{Taken}
use Rattle.node_frames.specs.declared.answers.Shown.{Shown}

-- no frame from the first to before the last can be taken
pub record ScansAll (first last : ℕ) (v w : View) : Type 0 where
  pub tail : List Look
  pub loads : AreLoads tail
  pub after : w ≡ looked v tail
  pub refused : (frame : ℕ) → first ≤ frame → frame < last → Refuses tail (frame_word frame)
  pub own : v.alone ≡ true → (frame : ℕ) → first ≤ frame → frame < last → IsOwn v (frame_word frame)

-- the lowest frame from the first to before the last that can be taken
pub record ScansTo (first last number generation : ℕ) (v w : View) : Type 0 where
  pub tail : List Look
  pub loads : AreLoads tail
  pub within : (first ≤ number) × (number < last)
  pub lower : (frame : ℕ) → first ≤ frame → frame < number → Refuses tail (frame_word frame)
  pub own : v.alone ≡ true → (frame : ℕ) → first ≤ frame → frame < number → IsOwn v (frame_word frame)
  pub took : Takes (looked v tail) (frame_word number) generation w

abbrev pub ScannedBy : ℕ → ℕ → View → Option Taken → View → Type 0
ScannedBy first last v None w = ScansAll first last v w
ScannedBy first last v (Some t) w = ScansTo first last t.number.0 t.generation v w

-- the node gave its lowest frame that could be taken, with a loan where it lies outside home
pub record GivesFrame (layout : Layout) (lends : List ℕ) (home node number generation : ℕ) (v w : View) : Type 0 where
  pub tail : List Look
  pub nothing : GainNothing tail
  pub on : IsOn layout node number
  pub lower : (frame : ℕ) → frame < number → IsOn layout node frame → Refuses tail (frame_word frame)
  pub own : v.alone ≡ true → (frame : ℕ) → frame < number → IsOn layout node frame → IsOwn v (frame_word frame)
  pub took : Takes (looked (paying layout home node v) tail) (frame_word number) generation w
  pub paid : IsOutside layout home node
      → cell_loans w (cell_of_node layout node) ≡ cell_loans v (cell_of_node layout node) + 1
  pub below : v.alone ≡ true → IsOutside layout home node
      → cell_loans v (cell_of_node layout node) < slice_index lends (cell_of_node layout node)

-- the node gave none, and showed why; each loan is repaid
pub record GivesNone (layout : Layout) (lends : List ℕ) (home node : ℕ) (entry : Shown) (v w : View) : Type 0 where
  pub tail : List Look
  pub nothing : GainNothing tail
  pub even : (cell : ℕ) → borrows_of cell tail ≡ repays_of cell tail
  pub after : w ≡ looked v tail
  pub shows : Shows layout lends home node entry tail
  pub own : v.alone ≡ true → Owns layout lends node entry v

abbrev pub SoughtBy : Layout → List ℕ → ℕ → ℕ → View → Result Taken Shown → View → Type 0
SoughtBy layout lends home node v (Ok t) w = GivesFrame layout lends home node t.number.0 t.generation v w
SoughtBy layout lends home node v (Err entry) w = GivesNone layout lends home node entry v w

-- What one node shows that gives no frame.
use Rattle.std.specs.Prelude.{◌≡◌, ℕ, List, slice_index}
use Rattle.node_frames.specs.Layout.{Layout}
use Rattle.frame_words.specs.FrameWords.{cell_word, frame_word}
use Rattle.frame_words.specs.Views.{cell_loans}
use Rattle.frame_words.specs.Refusals.{Refuses, IsOwn, IsAtLimit, IsLost}
use Rattle.frame_words.specs.declared.view.Look.{Look}
use Rattle.frame_words.specs.declared.view.View.{View}
use Rattle.node_frames.specs.Places.{IsOn, cell_of_node, IsOutside}
use Rattle.node_frames.specs.declared.answers.Shown.{Shown}
use Rattle.node_frames.specs.declared.answers.Shown.TheVariants.{AllHeld, AtLimit, Lost}

-- among these looks a node shows why it gives no frame: each of its frames is held or spent,
-- or its cell, outside home, gives no loan
abbrev pub Shows : Layout → List ℕ → ℕ → ℕ → Shown → List Look → Type 0
Shows layout lends home node AllHeld tail = (frame : ℕ) → IsOn layout node frame → Refuses tail (frame_word frame)
Shows layout lends home node (AtLimit seen) tail =
    let cell = cell_of_node layout node in
    IsOutside layout home node × IsAtLimit tail (cell_word cell) (slice_index lends cell) seen
Shows layout lends home node (Lost seen) tail =
    let cell = cell_of_node layout node in
    IsOutside layout home node × IsLost tail (cell_word cell) (slice_index lends cell) seen

-- where the view is alone, all of this is its own: its frames and the spent ones, its loans
abbrev pub Owns : Layout → List ℕ → ℕ → Shown → View → Type 0
Owns layout lends node AllHeld v = (frame : ℕ) → IsOn layout node frame → IsOwn v (frame_word frame)
Owns layout lends node (AtLimit seen) v = cell_loans v (cell_of_node layout node) ≡ slice_index lends (cell_of_node layout node)
Owns layout lends node (Lost seen) v = ⊥

-- The guest's frames, as the guest's holder has them.
use Rattle.std.specs.Prelude.{◌≡◌, ℕ, ◌*◌, ◌<◌, ◌≤◌, ◌==◌, ◌&&◌, if◌then◌else◌, Bool, List, [], Some, count_by, length}
use Rattle.private_machine.specs.Backing.{Copy}
use Rattle.base_words.specs.declared.events.End.{End}
use Rattle.frame_words.specs.FrameWords.{frame_word}
use Rattle.frame_words.specs.Views.{frame_holds, cell_loans, HeldUnder}
use Rattle.frame_words.specs.Holders.{MadeTable}
use Rattle.frame_words.specs.declared.view.View.{View}
use Rattle.isolation_law.specs.Surroundings.{Surroundings, cell_of_node, cell_of_frame, home_cell}
use Rattle.isolation_law.specs.GuestState.{GuestState}
use Rattle.isolation_law.specs.CellUse.{held, lies_in}
use Rattle.isolation_law.specs.Exchange.{count_of}
use Rattle.isolation_law.specs.Holdings.{holds, loans, is_frame}
use Rattle.isolation_law.specs.Start.{Found, Boot}

-- this frame under this generation
abbrev pub is_copy : ℕ → ℕ → ℕ → ℕ → Bool
is_copy frame generation f g = (f == frame) && (g == generation)

-- all frames of the machine
abbrev pub frames_around : Surroundings → ℕ
frames_around w = length w.nodes * w.frames

-- How often the holder holds each frame is how often the guest does, under the same generation; it has a loan for each that lies outside
-- the home cell, and no other; and the frames are the machine's.
pub record IsHolding (s : GuestState) (view : View) : Type 0 where
  pub counted : (frame : ℕ) → frame_holds view frame ≡ holds s frame
  pub same_generation : (frame generation : ℕ) → 0 < count_of (is_copy frame generation) (held s) → HeldUnder view (frame_word frame) generation
  pub borrowed : (cell : ℕ) → cell < 8 → cell_loans view cell ≡ loans s cell
  pub within : (frame : ℕ) → 0 < holds s frame → frame < frames_around s.around

-- a holder has all these copies, with a loan for each that lies outside the home cell, and no other hold or loan; and their frames are the
-- machine's
pub record HoldsCopies (w : Surroundings) (copies : List Copy) (view : View) : Type 0 where
  pub counted : (frame : ℕ) → frame_holds view frame ≡ count_by (is_frame frame) copies
  pub same_generation : (frame generation : ℕ) → 0 < count_of (is_copy frame generation) copies → HeldUnder view (frame_word frame) generation
  pub borrowed : (cell : ℕ) → cell < 8 → cell_loans view cell ≡ (if cell == home_cell w then 0 else count_by (lies_in w cell) copies)
  pub within : (frame : ℕ) → 0 < count_by (is_frame frame) copies → frame < frames_around w

-- so it is, and a guest that has ended has given all back
pub record HasFrames (s : GuestState) (view : View) : Type 0 where
  pub holding : IsHolding s view
  pub given_back : (end : End) → s.end ≡ Some end → view.holds ≡ []

-- ---- at the start

-- how often a frame, or one of a cell, is among those that were found
abbrev pub found_times : (ℕ → ℕ → Bool) → Boot → ℕ
found_times test b = count_by (λ (f : Found). test f.frame f.generation) b.frames

-- No frame is among those of a guest twice; the holder with which it is booted holds each of them, under its generation, with a loan for each that lies outside the
-- home cell, and nothing else; and the frames are the machine's
pub record HoldsFor (b : Boot) (view : View) : Type 0 where
  pub once : (frame : ℕ) → found_times (λ f g. f == frame) b ≤ 1
  pub counted : (frame : ℕ) → frame_holds view frame ≡ found_times (λ f g. f == frame) b
  pub same_generation : (frame generation : ℕ) → 0 < found_times (is_copy frame generation) b → HeldUnder view (frame_word frame) generation
  pub borrowed : (cell : ℕ) → cell < 8 → cell_loans view cell ≡ (if cell == home_cell b.around then 0 else found_times (λ f g. cell_of_frame b.around f == cell) b)
  pub within : (frame : ℕ) → 0 < found_times (λ f g. f == frame) b → frame < frames_around b.around

-- ---- the table

-- a table has a word for each frame of the machine, and a lend for each cell of its nodes
pub record FitsAround (table : MadeTable) (w : Surroundings) : Type 0 where
  pub frames : table.terms.frames ≡ frames_around w
  pub cells : (node : ℕ) → node < length w.nodes → cell_of_node w node < length table.terms.lends

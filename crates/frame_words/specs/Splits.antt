-- Which holds and loans go from a holder to a new one.
use Rattle.std.specs.Prelude.{◌≡◌, ℕ, ◌+◌, ◌<◌, ◌≤◌, ◌==◌, if◌then◌else◌, List, [], ◌∷◌, ◌++◌, replicate, slice_index, All, Contains}
use Rattle.base_words.specs.declared.frame.Frame.{Frame}
use Rattle.frame_words.specs.FrameWords.{cell_word, frame_word}
use Rattle.frame_words.specs.Views.{hold, times, held, frame_holds, cell_loans}
use Rattle.frame_words.specs.declared.view.Hold.{Hold}
use Rattle.frame_words.specs.declared.view.View.{View}

-- one hold of each of these frames, under its generation
abbrev pub frames_named : List Frame → List Hold
frames_named [] = []
frames_named (f ∷ fs) = hold (frame_word f.number.0) f.generation ∷ frames_named fs

-- so many loans of each cell, from this cell on
abbrev pub loans_from : ℕ → List ℕ → List Hold
loans_from cell [] = []
loans_from cell (n ∷ ns) = replicate n (hold (cell_word cell) 0) ++ loans_from (cell + 1) ns

-- these frames and these loans, one number a cell
abbrev pub named : List Frame → List ℕ → List Hold
named frames loans = frames_named frames ++ loans_from 0 loans

-- how often a frame is among these
abbrev pub frame_times : ℕ → List Frame → ℕ
frame_times frame [] = 0
frame_times frame (f ∷ fs) = (if f.number.0 == frame then 1 else 0) + frame_times frame fs

-- the view has these holds: each as often as it is named, and under that generation
pub record HasHolds (view : View) (holds : List Hold) : Type 0 where
  pub often : (word : ℕ) → times word holds ≤ held word view
  pub under : All (Contains view.holds) holds

-- among these holds is one of the frame, under its generation, and one of a loan of the cell
abbrev pub HasFrame : List Hold → Frame → Type 0
HasFrame holds frame = Contains holds (hold (frame_word frame.number.0) frame.generation)

abbrev pub HasLoan : List Hold → ℕ → Type 0
HasLoan holds cell = Contains holds (hold (cell_word cell) 0)

-- the view has these frames and these loans, and may have more, by frames and by cells
pub record HasNamed (view : View) (frames : List Frame) (loans : List ℕ) : Type 0 where
  pub holds : (frame : ℕ) → frame_times frame frames ≤ frame_holds view frame
  pub lent : (cell : ℕ) → cell < 8 → slice_index loans cell ≤ cell_loans view cell
  pub under : All (HasFrame view.holds) frames
  pub plain : (cell : ℕ) → cell < 8 → 0 < slice_index loans cell → HasLoan view.holds cell

-- the view has exactly these frames and these loans
pub record HasOnlyNamed (view : View) (frames : List Frame) (loans : List ℕ) : Type 0 where
  pub holds : (frame : ℕ) → frame_holds view frame ≡ frame_times frame frames
  pub lent : (cell : ℕ) → cell < 8 → cell_loans view cell ≡ slice_index loans cell
  pub under : All (HasFrame view.holds) frames
  pub plain : (cell : ℕ) → cell < 8 → 0 < slice_index loans cell → HasLoan view.holds cell

-- what these frames and loans leave with the first holder, by frames and cells
pub record KeepsUnnamed (old : View) (frames : List Frame) (loans : List ℕ) (new : View) : Type 0 where
  pub holds : (frame : ℕ) → frame_holds new frame + frame_times frame frames ≡ frame_holds old frame
  pub lent : (cell : ℕ) → cell < 8 → cell_loans new cell + slice_index loans cell ≡ cell_loans old cell
  pub stays : (frame under : ℕ) → frame_times frame frames < frame_holds old frame
      → Contains old.holds (hold (frame_word frame) under) → Contains new.holds (hold (frame_word frame) under)
  pub plain : (cell : ℕ) → cell < 8 → slice_index loans cell < cell_loans old cell → HasLoan old.holds cell → HasLoan new.holds cell

-- The private steps by which a holder's frames and loans go to a holder for each claim.
use Rattle.std.specs.Prelude.{◌≡◌, ℕ, ◌+◌, ◌*◌, ◌<◌, List, [], ◌∷◌, length, All}
use Rattle.base_words.specs.declared.frame.Frame.{Frame}
use Rattle.node_frames.specs.Layout.{Layout}
use Rattle.frame_words.specs.Views.{frame_holds, cell_loans}
use Rattle.frame_words.specs.Holders.{MadeTable, IsMade}
use Rattle.frame_words.specs.Splits.{named, frame_times}
use Rattle.frame_words.specs.Steps.{begun_with}
use Rattle.frame_words.specs.declared.view.View.{View}
use Rattle.boot_frames.specs.Gains.{HasPlainLoans}
use Rattle.boot_frames.specs.Loans.{loans_in, loans_of}
use Rattle.boot_frames.specs.Lots.{Has}
use Rattle.boot_frames.specs.declared.lots.Lot.{Lot}
use Rattle.boot_frames.specs.declared.taken.Taken.{Taken}

-- how often a frame, and how many loans of a cell, are among what was taken
abbrev pub times_taken : ℕ → List Taken → ℕ
times_taken frame [] = 0
times_taken frame (t ∷ ts) = frame_times frame t.frames + times_taken frame ts

abbrev pub loans_taken : Layout → ℕ → List Taken → ℕ
loans_taken layout cell [] = 0
loans_taken layout cell (t ∷ ts) = loans_in layout t.home.0 t.frames cell + loans_taken layout cell ts

-- a view has exactly the frames and loans that were taken
pub record HasAll (layout : Layout) (v : View) (takens : List Taken) : Type 0 where
  pub frames : (frame : ℕ) → frame_holds v frame ≡ times_taken frame takens
  pub loans : (cell : ℕ) → cell < 8 → cell_loans v cell ≡ loans_taken layout cell takens
  pub under : All (λ (t : Taken). All (Has v.holds) t.frames) takens
  pub plain : HasPlainLoans v

-- the frames lie within the table, and there are not too many to count
pub record IsCountable (layout : Layout) (taken : Taken) : Type 0 where
  pub few : length taken.frames < 4294967296
  pub within : All (λ (f : Frame). f.number.0 < layout.nodes * layout.frames) taken.frames

-- a claim's frames and loans went to a holder of its own
pub record Gives (table : MadeTable) (layout : Layout) (taken : Taken) (lot : Lot) : Type 0 where
  pub frames : lot.frames ≡ taken.frames
  pub holds : lot.holder.view ≡ begun_with (named taken.frames (loans_of layout taken.home.0 taken.frames))
  pub made : IsMade table lot.holder

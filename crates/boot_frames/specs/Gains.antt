-- What a view gains by frames that are taken one after another.
use Rattle.std.specs.Prelude.{◌≡◌, ℕ, ◌+◌, ◌<◌, List, All, Contains}
use Rattle.base_words.specs.declared.frame.Frame.{Frame}
use Rattle.node_frames.specs.Layout.{Layout}
use Rattle.frame_words.specs.Views.{frame_holds, cell_loans}
use Rattle.frame_words.specs.Splits.{frame_times, HasLoan}
use Rattle.frame_words.specs.declared.view.Hold.{Hold}
use Rattle.frame_words.specs.declared.view.View.{View}
use Rattle.boot_frames.specs.Loans.{loans_in}
use Rattle.boot_frames.specs.Lots.{Has}

-- each cell of which the view has a loan is held as a loan is
abbrev pub HasPlainLoans : View → Type 0
HasPlainLoans v = (cell : ℕ) → cell < 8 → 0 < cell_loans v cell → HasLoan v.holds cell

-- these frames and their loans, beside all that it had
pub record GainsAll (layout : Layout) (home : ℕ) (list : List Frame) (v w : View) : Type 0 where
  pub frames : (frame : ℕ) → frame_holds w frame ≡ frame_times frame list + frame_holds v frame
  pub loans : (cell : ℕ) → cell < 8 → cell_loans w cell ≡ loans_in layout home list cell + cell_loans v cell
  pub under : All (Has w.holds) list
  pub stays : (h : Hold) → Contains v.holds h → Contains w.holds h
  pub plain : HasPlainLoans v → HasPlainLoans w

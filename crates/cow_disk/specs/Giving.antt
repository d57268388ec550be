-- The frames of an index are given back.
use Rattle.std.specs.Prelude.{◌≡◌, ℕ, ◌<◌, ◌==◌, Bool, List, All, count_by}
use Rattle.frame_words.specs.Views.{frame_holds, cell_loans}
use Rattle.frame_words.specs.declared.view.View.{View}
use Rattle.cow_disk.specs.declared.index.CacheFrame.{CacheFrame}

abbrev pub is_number : ℕ → CacheFrame → Bool
is_number frame f = f.number.0 == frame

-- a holder holds each of these frames as often as it is among them, and nothing else
pub record HoldsFrames (view : View) (frames : List CacheFrame) : Type 0 where
  pub holds : (frame : ℕ) → frame_holds view frame ≡ count_by (is_number frame) frames
  pub no_loans : (cell : ℕ) → cell < 8 → cell_loans view cell ≡ 0

-- they are frames of a table with so many
abbrev pub AreBelow : ℕ → List CacheFrame → Type 0
AreBelow count frames = All (λ (f : CacheFrame). f.number.0 < count) frames

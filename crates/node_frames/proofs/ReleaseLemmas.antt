-- A release: the cell of a frame's node, and a loan that a give back leaves.
use Rattle.std.proofs.Common.{◌≡◌, ◌≢◌, ℕ, ◌+◌, ◌<◌, ◌==◌, Bool, true, true≢false, Some, ap, subst, sym, ◌∙◌, arith, length, eq-eqb}
use Rattle.std.specs.Prelude.{slice_get, not}
use Rattle.std.proofs.lemmas.Option.{get_or_from_slice_get, slice_get_within}
use Rattle.node_frames.specs.Layout.{Layout}
use Rattle.base_words.specs.declared.ids.CellId.{CellId}
use Rattle.frame_words.specs.AddingUp.{HoldsAddUp}
use Rattle.frame_words.specs.FrameWords.{frame_word, cell_word}
use Rattle.frame_words.specs.Views.{held}
use Rattle.frame_words.specs.Taking.{GivesUp}
use Rattle.frame_words.specs.Holders.{MadeTable}
use Rattle.frame_words.specs.declared.view.View.{View}
use Rattle.frame_words.specs.declared.view.StepKind.{StepKind}
use Rattle.node_frames.specs.Places.{cell_of_node, FitsShape}

pub cell_is : (layout : Layout) (node : ℕ) (cell : CellId) → slice_get layout.cells node ≡ Some cell → cell_of_node layout node ≡ cell.0
cell_is layout node cell is = ap (λ (c : CellId). c.0) (get_or_from_slice_get layout.cells node cell (record { 0 = 0 }) is)

pub cell_low : (table : MadeTable) (layout : Layout) (node : ℕ) (cell : CellId) → FitsShape table layout → slice_get layout.cells node ≡ Some cell → cell.0 < 8
cell_low table layout node cell fits is =
    let lent : cell.0 < length table.terms.lends = subst (λ (c : CellId). c.0 < length table.terms.lends) (get_or_from_slice_get layout.cells node cell cell is) (fits.cells node cell (slice_get_within layout.cells node cell is)) in
    let few = table.terms.few_cells in omega arith

-- giving back a frame ends no loan
pub still_lent : HoldsAddUp → (v w : View) (kind : StepKind) (f c : ℕ) → GivesUp v kind (frame_word f) w → c < 8 → 0 < held (cell_word c) v → 0 < held (cell_word c) w
still_lent holds v w kind f c g low lent =
    let same = ap (held c) g.after in
    let e = holds.less_else (f + 8) c v.holds (λ (h : c ≡ f + 8). omega arith) in omega arith

pub apart : (a b : ℕ) (r : Bool) → r ≡ true → r ≡ not (a == b) → a ≢ b
apart a b r on is same = true≢false (sym on ∙ is ∙ ap not (eq-eqb a b same))

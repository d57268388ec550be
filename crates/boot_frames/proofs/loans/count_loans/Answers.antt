use Rattle.std.proofs.Common.{◌≡◌, ℕ, ◌<◌, ◌+◌, ◌/◌, ◌==◌, Bool, true, false, All, List, length, get_or, take, Some, rules, refl, eqb-true, eq-eqb, true≢false, sym, ap, ◌∙◌, subst, arith}
use Rattle.std.proofs.lemmas.List.{take_all}
use Rattle.std.proofs.lemmas.List.FromFn.{fill_by_all}
use Rattle.std.specs.Prelude.{slice_get, not}
use Rattle.std.proofs.lemmas.Option.{get_or_from_slice_get, slice_get_within}
use Rattle.base_words.specs.declared.frame.Frame.{Frame}
use Rattle.base_words.specs.declared.ids.CellId.{CellId}
use Rattle.boot_frames.specs.Loans.{cell_of_frame, loans_in}
use Rattle.boot_frames.proofs.LoanLemmas.{Counted, counted_lent, counted_home, counted_few}
use Rattle.boot_frames.proofs.loans.count_loans.Goals as goal
use Rattle.boot_frames.proofs.loans.count_loans.Goals.{then-ne, else-ne}
use Rattle.node_frames.specs.Layout.{layout_of}

-- the frame of this turn
here : (items frames : List Frame) (k : ℕ) (f : Frame) → items ≡ frames → f ≡ get_or items k f → get_or frames k f ≡ f
here items frames k f is at = sym (at ∙ ap (λ (l : List Frame). get_or l k f) is)

within : (items frames : List Frame) (k : ℕ) → items ≡ frames → k < length items → k < length frames
within items frames k is below = let e = ap (λ (l : List Frame). length l) is in omega arith

same : (a b : ℕ) (r : Bool) → r ≡ false → r ≡ not (a == b) → a ≡ b
same a b r off is = eqb-true a b (not_false (a == b) (sym is ∙ off))
  where
    not_false : (x : Bool) → not x ≡ false → x ≡ true
    not_false true e = refl
    not_false false e = absurd (true≢false e)

-- the cell of a frame is one of eight
low : (cells : List CellId) (node : ℕ) (cell : CellId) → All (λ (c : CellId). c.0 < 8) cells → slice_get cells node ≡ Some cell → cell.0 < 8
low cells node cell all is = subst (λ (c : CellId). c.0 < 8) (get_or_from_slice_get cells node cell cell is) (all node cell (slice_get_within cells node cell is))

pub loop-frame-preserved : goal.loop-frame-preserved
loop-frame-preserved c =
    let layout = (layout_of c.args.shape.now) in
    let frames = c.args.frames.now in
    let f = c.frame-item.result in
    let k = c.loop-frame.frame-index in
    let cell = c.cell_of-cell.result in
    let inside : k < length frames = within _ _ k c.as_slice-frame-items.ensures c.loop-frame-test.true in
    let is : get_or frames k f ≡ f = here _ _ k f c.as_slice-frame-items.ensures c.frame-item.is in
    let on : cell_of_frame layout f ≡ cell.0 = ap (λ (x : CellId). x.0) (get_or_from_slice_get layout.cells (f.number.0 / layout.frames) cell (record { 0 = 0 }) c.cell_of-cell.ensures) in
    elim c.if-ne.branch [
      | then-ne w ↦ subst (Counted layout c.args.home.0 (take (k + 1) frames)) (sym w.loans-is)
          (counted_lent layout c.args.home.0 cell.0 frames k c.loop-frame.loans f inside is on
          (λ e. true≢false (sym w.if-ne.true ∙ c.ne.ensures ∙ ap not (eq-eqb cell.0 c.args.home.0 e)))
          (low layout.cells (f.number.0 / layout.frames) cell c.requires.cells c.cell_of-cell.ensures) c.loop-frame.invariant)
      | else-ne w ↦ subst (Counted layout c.args.home.0 (take (k + 1) frames)) (sym w.loans-is)
          (counted_home layout c.args.home.0 frames k c.loop-frame.loans f inside is
          (on ∙ same cell.0 c.args.home.0 c.ne.result w.if-ne.false c.ne.ensures) c.loop-frame.invariant)
    ]

pub overflow_add-loans : goal.overflow_add-loans
overflow_add-loans c =
    let frames = c.args.frames.now in
    let k = c.loop-frame.frame-index in
    let cell = c.cell_of-cell.result in
    let few = counted_few (layout_of c.args.shape.now) c.args.home.0 cell.0 frames k c.loop-frame.loans (within _ _ k c.as_slice-frame-items.ensures c.loop-frame-test.true)
    (low c.args.shape.now.cells (c.frame-item.result.number.0 / c.args.shape.now.frames) cell c.requires.cells c.cell_of-cell.ensures) c.loop-frame.invariant in
    let most = c.requires.few in
    let fits : get_or c.loop-frame.loans cell.0 0 + 1 < 4294967296 = omega arith in search rules

pub returns : goal.returns
returns c =
    let i = c.loop-frame.invariant in
    let all : take c.loop-frame.frame-index c.args.frames.now ≡ c.args.frames.now =
    take_all c.loop-frame.frame-index c.args.frames.now (let t = c.loop-frame-test.false in let e = ap (λ (l : List Frame). length l) c.as_slice-frame-items.ensures in omega arith) in
    let counted = subst (λ (l : List Frame). Counted (layout_of c.args.shape.now) c.args.home.0 l c.loop-frame.loans) all i in
    fill_by_all (loans_in (layout_of c.args.shape.now) c.args.home.0 c.args.frames.now) c.loop-frame.loans 8 0 counted.cells counted.each

-- Each frame is counted in its cell.
use Rattle.std.proofs.Common.{◌≡◌, ◌+◌, ◌*◌, ◌<◌, ◌≤◌, List, [], ◌∷◌, ◌++◌, length, map, take, get_or, refl, sym, ap, ◌∙◌, subst, arith}
use Rattle.std.proofs.Math.ListN.{length-set}
use Rattle.std.proofs.lemmas.List.{append-nil, length-map, length-take-le, map_more, take_all}
use Rattle.std.proofs.lemmas.List.Elements.{All-get_or}
use Rattle.base_words.specs.Limits.{most_cells}
use Rattle.base_words.specs.declared.frame.Frame.{Frame}
use Rattle.base_words.specs.declared.ids.FrameNo.{FrameNo}
use Rattle.cell_depend.specs.CellUse.{Rows}
use Rattle.cell_depend.specs.Counters.{UsesState, AreCounts, with_frame}
use Rattle.cell_depend.specs.Events.{at_start}
use Rattle.guest_core.proofs.using.count_frames.Goals as goal
use Rattle.guest_core.proofs.using.count_frames.Goals.{then-cell-lt-CELLS, else-cell-lt-CELLS}

-- these frames, and nothing loaded
abbrev rows : List FrameNo → Rows
rows frames = record { frames = frames; loaded = [] }

pub loop-frame-init : goal.loop-frame-init
loop-frame-init c =
    subst (λ (uses : UsesState). (length uses.counts ≡ most_cells) × AreCounts c.args.shape.now (rows []) uses) (sym c.in_ok-uses.ensures)
    (refl, c.counters_equal_rows.ensures c.args.shape.now most_cells [] (at_start most_cells) refl)

pub cell_of-cell-requires : goal.cell_of-cell-requires
cell_of-cell-requires c =
    let shape = c.args.shape.now in
    let within = subst (λ (fs : List Frame). c.loop-frame.frame-index < length fs) c.as_slice-frame-items.ensures c.loop-frame-test.true in
    let at : c.frame-item.result ≡ get_or c.args.frames.now c.loop-frame.frame-index c.frame-item.result =
    c.frame-item.is ∙ ap (λ (fs : List Frame). get_or fs c.loop-frame.frame-index c.frame-item.result) c.as_slice-frame-items.ensures in
    subst (λ (f : Frame). f.number.0 < shape.nodes * shape.frames) (sym at)
    (All-get_or (λ (f : Frame). f.number.0 < shape.nodes * shape.frames) c.args.frames.now c.loop-frame.frame-index c.frame-item.result within c.requires.within)

pub add_frame-requires-clause-within : goal.add_frame-requires-clause-within
add_frame-requires-clause-within c = omega (arith, c.loop-frame.invariant.0)

pub add_frame-requires-clause-room : goal.add_frame-requires-clause-room
add_frame-requires-clause-room c =
    let fs = c.as_slice-frame-items.result.now in
    let taken = map (λ (f : Frame). f.number) (take c.loop-frame.frame-index fs) in
    let count = c.loop-frame.invariant.1.frames c.cell_of-cell.result.0 (add_frame-requires-clause-within c) in
    let few = c.frames_are_counted.ensures.few c.args.shape.now c.cell_of-cell.result.0 taken in
    let long = length-map (take c.loop-frame.frame-index fs) (λ (f : Frame). f.number) in
    let short = length-take-le c.loop-frame.frame-index fs (omega arith) in
    let all = ap length c.as_slice-frame-items.ensures in
    let most = c.requires.few in
    omega (arith, count, few, long, short, all, most)

pub loop-frame-preserved : goal.loop-frame-preserved
loop-frame-preserved c =
    let shape = c.args.shape.now in
    let fs = c.as_slice-frame-items.result.now in
    let i = c.loop-frame.frame-index in
    let item = c.frame-item.result in
    let cell = c.cell_of-cell.result in
    let old = c.loop-frame.uses in
    let so-far : List FrameNo = map (λ (f : Frame). f.number) (take i fs) in
    let grown : so-far ++ item.number ∷ [] ≡ map (λ (f : Frame). f.number) (take (i + 1) fs) =
    ap (λ (f : Frame). so-far ++ f.number ∷ []) c.frame-item.is ∙ sym (map_more (λ (f : Frame). f.number) fs i item c.loop-frame-test.true) in
    let before = c.loop-frame.invariant in
    elim c.if-cell-lt-CELLS.branch [
      | then-cell-lt-CELLS w ↦
          let is = w.uses-is ∙ w.add_frame.ensures in
          let counted : cell.0 < length old.counts = omega (arith, before.0, w.if-cell-lt-CELLS.true) in (
            ap (λ (u : UsesState). length u.counts) is ∙ length-set old.counts cell.0 _ ∙ before.0,
            subst (λ (u : UsesState). AreCounts shape (rows (map (λ (f : Frame). f.number) (take (i + 1) fs))) u) (sym is)
                (subst (λ (l : List FrameNo). AreCounts shape (rows l) (with_frame old cell.0)) grown
                (c.frame_taken.ensures.behind shape (rows so-far) old item.number cell before.1 (record { lies = c.cell_of-cell.ensures; counted = counted }))),
          )
      | else-cell-lt-CELLS w ↦
          let past : length old.counts ≤ cell.0 = omega (arith, before.0, w.if-cell-lt-CELLS.false) in (
            ap (λ (u : UsesState). length u.counts) w.uses-is ∙ before.0,
            subst (λ (u : UsesState). AreCounts shape (rows (map (λ (f : Frame). f.number) (take (i + 1) fs))) u) (sym w.uses-is)
                (c.frame_taken.ensures.elsewhere shape (rows so-far) old item.number cell _ before.1 (record { lies = c.cell_of-cell.ensures; uncounted = past })
                (record { front = so-far; back = []; was = sym grown; is = sym (append-nil so-far) })),
          )
    ]

pub returns-clause-cells : goal.returns-clause-cells
returns-clause-cells c = c.loop-frame.invariant.0

pub returns-clause-counts : goal.returns-clause-counts
returns-clause-counts c =
    let fs = c.as_slice-frame-items.result.now in
    subst (λ (l : List Frame). AreCounts c.args.shape.now (rows (map (λ (f : Frame). f.number) l)) c.loop-frame.uses) (take_all c.loop-frame.frame-index fs c.loop-frame-test.false ∙ c.as_slice-frame-items.ensures) c.loop-frame.invariant.1

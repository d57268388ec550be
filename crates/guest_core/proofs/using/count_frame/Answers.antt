-- One frame more is counted in its cell.
use Rattle.std.proofs.Common.{◌<◌, ◌≤◌, ◌∷◌, length, map, sym, ◌∙◌, subst, arith}
use Rattle.std.proofs.Math.ListN.{length-set}
use Rattle.std.proofs.lemmas.List.{length-map}
use Rattle.guest_core.specs.Using.{CountsCopies, frame_of}
use Rattle.guest_core.proofs.CountedCopies.{told-cell, counted-rows, joins-head}
use Rattle.guest_core.proofs.using.count_frame.Goals as goal

pub add_frame-requires-clause-room : goal.add_frame-requires-clause-room
add_frame-requires-clause-room c =
    let used = c.requires.used in
    let u = used.4 in
    let cell = c.cell_of-cell.result.0 in
    let count = u.counts.frames cell (omega (arith, u.cells, c.if-cell-lt-CELLS.true)) in
    let few = c.frames_are_counted.ensures.few u.shape cell (map frame_of used.1) in
    let long = length-map used.1 frame_of in
    omega (arith, count, few, long, used.3)

pub returns-then-cell-lt-CELLS : goal.returns-then-cell-lt-CELLS
returns-then-cell-lt-CELLS c = λ s copies x around is u.
    let old = c.args.uses.now in
    let cell = c.cell_of-cell.result in
    let lies = told-cell s c.args.around.now u.shape x c.args.frame cell around u.told is c.cell_of-cell.ensures in
    let counted : cell.0 < length old.counts = omega (arith, u.cells, c.if-cell-lt-CELLS.true) in
    subst (CountsCopies s (x ∷ copies)) (sym c.add_frame.ensures) (record {
      shape = u.shape;
      told = u.told;
      cells = length-set old.counts cell.0 _ ∙ u.cells;
      counts = c.frame_taken.ensures.anywhere u.shape (counted-rows s copies) old (frame_of x) cell _ u.counts (record { lies = lies; counted = counted }) (joins-head x copies);
    })

pub returns-else-cell-lt-CELLS : goal.returns-else-cell-lt-CELLS
returns-else-cell-lt-CELLS c = λ s copies x around is u.
    let old = c.args.uses.now in
    let cell = c.cell_of-cell.result in
    let lies = told-cell s c.args.around.now u.shape x c.args.frame cell around u.told is c.cell_of-cell.ensures in
    let past : length old.counts ≤ cell.0 = omega (arith, u.cells, c.if-cell-lt-CELLS.false) in
    record {
      shape = u.shape;
      told = u.told;
      cells = u.cells;
      counts = c.frame_taken.ensures.elsewhere u.shape (counted-rows s copies) old (frame_of x) cell _ u.counts (record { lies = lies; uncounted = past }) (joins-head x copies);
    }

-- One frame fewer is counted in its cell.
use Rattle.std.proofs.Common.{◌<◌, ◌≤◌, length, sym, ◌∙◌, subst, arith}
use Rattle.std.proofs.Math.ListN.{length-set}
use Rattle.guest_core.specs.Using.{CountsCopies, frame_of}
use Rattle.guest_core.proofs.CountedCopies.{told-cell, leaves-last}
use Rattle.guest_core.proofs.using.count_frame_no_more.Goals as goal

pub drop_frame-requires-clause-some : goal.drop_frame-requires-clause-some
drop_frame-requires-clause-some c =
    let used = c.requires.used in
    let u = used.5 in
    let old = c.args.uses.now in
    let cell = c.cell_of-cell.result in
    let lies = told-cell used.0 c.args.around.now u.shape used.2 c.args.frame cell used.3 u.told used.4 c.cell_of-cell.ensures in
    let counted : cell.0 < length old.counts = omega (arith, u.cells, c.if-cell-lt-CELLS.true) in
    c.frame_given_back.ensures.some u.shape _ old (frame_of used.2) cell _ u.counts (record { lies = lies; counted = counted }) (leaves-last used.2 used.1)

pub returns-then-cell-lt-CELLS : goal.returns-then-cell-lt-CELLS
returns-then-cell-lt-CELLS c = λ s copies x around is u.
    let old = c.args.uses.now in
    let cell = c.cell_of-cell.result in
    let lies = told-cell s c.args.around.now u.shape x c.args.frame cell around u.told is c.cell_of-cell.ensures in
    let counted : cell.0 < length old.counts = omega (arith, u.cells, c.if-cell-lt-CELLS.true) in
    subst (CountsCopies s copies) (sym c.drop_frame.ensures) (record {
      shape = u.shape;
      told = u.told;
      cells = length-set old.counts cell.0 _ ∙ u.cells;
      counts = c.frame_given_back.ensures.lowered u.shape _ old (frame_of x) cell _ u.counts (record { lies = lies; counted = counted }) (leaves-last x copies);
    })

pub returns-else-cell-lt-CELLS : goal.returns-else-cell-lt-CELLS
returns-else-cell-lt-CELLS c = λ s copies x around is u.
    let old = c.args.uses.now in
    let cell = c.cell_of-cell.result in
    let lies = told-cell s c.args.around.now u.shape x c.args.frame cell around u.told is c.cell_of-cell.ensures in
    let past : length old.counts ≤ cell.0 = omega (arith, u.cells, c.if-cell-lt-CELLS.false) in
    record {
      shape = u.shape;
      told = u.told;
      cells = u.cells;
      counts = c.frame_given_back.ensures.elsewhere u.shape _ old (frame_of x) cell _ u.counts (record { lies = lies; uncounted = past }) (leaves-last x copies);
    }

-- The cell is marked, which is the row where the guest goes on or has ended.
use Rattle.std.proofs.Common.{true, Some, set, refl, ap, ◌∙◌}
use Rattle.isolation_law.specs.CellFailure.{failure_of}
use Rattle.guest_course.specs.CourseView.{state_of}
use Rattle.guest_course.specs.FailCalls.{Marks}
use Rattle.guest_course.proofs.FailProofs.{fails-row, fails-sound}
use Rattle.guest_course.proofs.RebackLemmas.{well, is-well}
use Rattle.guest_course.proofs.course.Course.fail.Goals as goal

marks : (c : goal.After-self-1) → Marks c.args.self.now c.args.cell.0 (record c.args.self.now { dead = Some c.with.result })
marks c = record { same = refl; cells = c.with.ensures ∙ ap (λ l. set l c.args.cell.0 true) c.dead_cells.ensures }

pub returns-clause-marks : goal.returns-clause-marks
unfolding marks
returns-clause-marks c = marks c

pub returns-clause-fails : goal.returns-clause-fails
returns-clause-fails c may = fails-row c.args.self.now _ c.args.cell.0 c.requires.sound c.requires.cell (marks c) may

pub returns-clause-sound : goal.returns-clause-sound
returns-clause-sound c may =
    let old = c.args.self.now in
    let row = fails-row old _ c.args.cell.0 c.requires.sound c.requires.cell (marks c) may in
    fails-sound old c.args.cell.0 (Some c.with.result) c.requires.sound (marks c).cells
    (λ on. well c.row_keeps.ensures.coherent c.row_keeps.ensures.uses_live (state_of old) _ (failure_of c.args.cell.0) (is-well (c.requires.sound.going on)) row on)

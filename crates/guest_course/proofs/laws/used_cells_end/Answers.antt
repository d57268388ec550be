-- The failure is its row, by which the end is owed.
use Rattle.guest_course.proofs.FailProofs.{fails-so}
use Rattle.guest_course.proofs.laws.used_cells_end.Goals as goal

pub returns : goal.returns
returns c = fails-so

use Rattle.cell_depend.proofs.Changes.{AreCounts-reordered}
use Rattle.cell_depend.proofs.law.rows_reordered.Goals as goal

pub returns : goal.returns
returns c = AreCounts-reordered

use Rattle.cell_depend.proofs.Histories.{AreCounts-history}
use Rattle.cell_depend.proofs.law.counters_equal_rows.Goals as goal

pub returns : goal.returns
returns c = AreCounts-history

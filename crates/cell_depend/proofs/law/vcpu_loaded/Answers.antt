use Rattle.cell_depend.proofs.Counting.{Joins-push}
use Rattle.cell_depend.proofs.Changes.{AreCounts-more_vcpu, AreCounts-vcpu_elsewhere}
use Rattle.cell_depend.proofs.law.vcpu_loaded.Goals as goal

pub returns-clause-behind : goal.returns-clause-behind
returns-clause-behind c = λ shape rows uses cell are counted. AreCounts-more_vcpu shape rows uses cell _ are counted (Joins-push cell rows.loaded)

pub returns-clause-anywhere : goal.returns-clause-anywhere
returns-clause-anywhere c = AreCounts-more_vcpu

pub returns-clause-elsewhere : goal.returns-clause-elsewhere
returns-clause-elsewhere c = AreCounts-vcpu_elsewhere

use Rattle.cell_depend.proofs.Changes.{AreCounts-less_vcpu, AreCounts-vcpu_left_elsewhere, counted-vcpu}
use Rattle.cell_depend.proofs.law.vcpu_unloaded.Goals as goal

pub returns-clause-some : goal.returns-clause-some
returns-clause-some c = counted-vcpu

pub returns-clause-lowered : goal.returns-clause-lowered
returns-clause-lowered c = AreCounts-less_vcpu

pub returns-clause-elsewhere : goal.returns-clause-elsewhere
returns-clause-elsewhere c = AreCounts-vcpu_left_elsewhere

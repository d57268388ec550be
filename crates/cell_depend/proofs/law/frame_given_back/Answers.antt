use Rattle.cell_depend.proofs.Changes.{AreCounts-less_frame, AreCounts-frame_left_elsewhere, counted-frame}
use Rattle.cell_depend.proofs.law.frame_given_back.Goals as goal

pub returns-clause-some : goal.returns-clause-some
returns-clause-some c = counted-frame

pub returns-clause-lowered : goal.returns-clause-lowered
returns-clause-lowered c = AreCounts-less_frame

pub returns-clause-elsewhere : goal.returns-clause-elsewhere
returns-clause-elsewhere c = AreCounts-frame_left_elsewhere

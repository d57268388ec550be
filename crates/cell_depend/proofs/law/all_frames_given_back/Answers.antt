use Rattle.cell_depend.proofs.Changes.{AreCounts-no_frames}
use Rattle.cell_depend.proofs.law.all_frames_given_back.Goals as goal

pub returns : goal.returns
returns c = AreCounts-no_frames

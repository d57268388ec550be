use Rattle.cell_depend.proofs.Counting.{Joins-push}
use Rattle.cell_depend.proofs.Changes.{AreCounts-more_frame, AreCounts-frame_elsewhere}
use Rattle.cell_depend.proofs.law.frame_taken.Goals as goal

pub returns-clause-behind : goal.returns-clause-behind
returns-clause-behind c = λ shape rows uses frame cell are place. AreCounts-more_frame shape rows uses frame cell _ are place (Joins-push frame rows.frames)

pub returns-clause-anywhere : goal.returns-clause-anywhere
returns-clause-anywhere c = AreCounts-more_frame

pub returns-clause-elsewhere : goal.returns-clause-elsewhere
returns-clause-elsewhere c = AreCounts-frame_elsewhere

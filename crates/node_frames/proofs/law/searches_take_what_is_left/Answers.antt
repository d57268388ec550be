use Rattle.node_frames.proofs.CellLemmas.{after_searches-more, searches_take, cell_searches_take}
use Rattle.node_frames.proofs.law.searches_take_what_is_left.Goals as goal

pub returns-clause-more : goal.returns-clause-more
returns-clause-more c = after_searches-more

pub returns-clause-guest : goal.returns-clause-guest
returns-clause-guest c = searches_take

pub returns-clause-cache : goal.returns-clause-cache
returns-clause-cache c = cell_searches_take

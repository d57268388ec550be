use Rattle.outside_io.proofs.WritingLemmas.{Starves-nothing}
use Rattle.outside_io.proofs.law.nothing_put_is_starved.Goals as goal

pub returns : goal.returns
returns c = Starves-nothing

use Rattle.boot_frames.proofs.ChainLemmas.{chain-append, chain-later, chain-fewer}
use Rattle.boot_frames.proofs.law.first_short_is_told_in_order.Goals as goal

pub returns-clause-later : goal.returns-clause-later
returns-clause-later c = chain-later

pub returns-clause-fewer : goal.returns-clause-fewer
returns-clause-fewer c = chain-fewer

pub returns-clause-behind : goal.returns-clause-behind
returns-clause-behind c = chain-append

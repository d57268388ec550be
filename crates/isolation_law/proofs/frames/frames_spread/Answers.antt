-- By the rows.
use Rattle.std.proofs.Common.{refl}
use Rattle.isolation_law.specs.Start.{start}
use Rattle.isolation_law.proofs.frames.frames_spread.Goals as goal
use Rattle.isolation_law.proofs.StartProofs.{start_coherent}
use Rattle.isolation_law.proofs.SpreadProofs.{run-spreads, start-spreads}

pub returns : goal.returns
returns c b journal t is run q lt = (run-spreads (start b) t journal (λ on. start_coherent b is) refl (start-spreads b) run q lt).0

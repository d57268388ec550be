-- From any state in which it holds.
use Rattle.isolation_law.specs.Content.{content}
use Rattle.isolation_law.proofs.law.isolation_from.Goals as goal
use Rattle.isolation_law.proofs.LawProofs.{run_kept, run_coherent, start_kept}
use Rattle.isolation_law.proofs.LiveRuns.{run-live}
use Rattle.isolation_law.proofs.AroundProofs.{run-around}

pub returns-clause-coherent : goal.returns-clause-coherent
returns-clause-coherent c = run_coherent

pub returns-clause-uses_live : goal.returns-clause-uses_live
returns-clause-uses_live c s t j live run = run-live s t j live run

pub returns-clause-same : goal.returns-clause-same
returns-clause-same c s t j co run = (run_kept s t j (content s) (start_kept s co.consistent) co.mirrors run).same

pub returns-clause-console : goal.returns-clause-console
returns-clause-console c s t j co run = (run_kept s t j (content s) (start_kept s co.consistent) co.mirrors run).console

pub returns-clause-sent : goal.returns-clause-sent
returns-clause-sent c s t j co run = (run_kept s t j (content s) (start_kept s co.consistent) co.mirrors run).sent

pub returns-clause-around : goal.returns-clause-around
returns-clause-around c = run-around

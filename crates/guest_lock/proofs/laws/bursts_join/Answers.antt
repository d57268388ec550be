use Rattle.guest_lock.proofs.BurstLemmas.{Bursts-none, Bursts-join, Bursts-waited, shown-burst}
use Rattle.guest_lock.proofs.laws.bursts_join.Goals as goal

pub returns-clause-none : goal.returns-clause-none
returns-clause-none c = Bursts-none

pub returns-clause-joined : goal.returns-clause-joined
returns-clause-joined c = Bursts-join

pub returns-clause-shown : goal.returns-clause-shown
returns-clause-shown c = λ old new g burst bursts. shown-burst old g burst new bursts

pub returns-clause-waited : goal.returns-clause-waited
returns-clause-waited c = Bursts-waited

-- By what the word at hand asks.
use Rattle.isolation_law.proofs.rows.traps_alike.Goals as goal
use Rattle.isolation_law.proofs.AlikeProofs.{traps-without, emulated-alike, hand-alike, tried-alike, done-paged}

pub returns-clause-trap : goal.returns-clause-trap
returns-clause-trap c = traps-without

pub returns-clause-step : goal.returns-clause-step
returns-clause-step c = emulated-alike

pub returns-clause-hand : goal.returns-clause-hand
returns-clause-hand c = hand-alike

pub returns-clause-tried : goal.returns-clause-tried
returns-clause-tried c = tried-alike

pub returns-clause-stored : goal.returns-clause-stored
returns-clause-stored c = done-paged

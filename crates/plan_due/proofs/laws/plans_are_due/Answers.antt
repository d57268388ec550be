use Rattle.plan_due.proofs.WholeLemmas.{is-due}
use Rattle.plan_due.proofs.laws.plans_are_due.Goals as goal

pub returns : goal.returns
returns c = λ m plan tokens queues guests seats x.
    is-due (record { dead = c.failures_stay.ensures.count; ended = c.journals_tell.ensures.ended }) m plan tokens queues guests seats x

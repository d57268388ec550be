use Rattle.std.proofs.Common.{rules, ap}
use Rattle.shootdown.specs.Steps.{Own}
use Rattle.shootdown.proofs.Moves.{loads}
use Rattle.shootdown.proofs.Places.{in_step}
use Rattle.shootdown.proofs.calls.agree.Goals as goal

pub load-requires : goal.load-requires
load-requires c = (search rules, search rules, loads _ _ _)

pub returns-clause-agree : goal.returns-clause-agree
returns-clause-agree c = in_step c.token.inside c.seat.inside _ _ _ c.token.view_is c.seat.view_is c.token.invariant c.seat.invariant (ap (λ (m : Own). m.0) c.meet.ensures.token) c.load.ensures.2.1

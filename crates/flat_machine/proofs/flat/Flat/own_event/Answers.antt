use Rattle.std.proofs.Common.{arith}
use Rattle.flat_machine.proofs.flat.Flat.own_event.Goals as goal

pub invariant_of-self : goal.invariant_of-self
invariant_of-self c = record { sound = c.run.ensures.sound; some = omega (arith, c.run.ensures.count, c.self.invariant.some) }

pub returns-in-Step-clause-made : goal.returns-in-Step-clause-made
returns-in-Step-clause-made c = rw (c.in-Step.is, ← c.self.view_is) c.run.ensures.made

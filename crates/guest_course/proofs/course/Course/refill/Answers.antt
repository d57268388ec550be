-- A frame of a failed cell is no access that gets its half.
use Rattle.std.proofs.Common.{sym, subst}
use Rattle.base_words.specs.declared.trap.TrapCause.{TrapCause}
use Rattle.guest_course.specs.CourseView.{state_of}
use Rattle.guest_course.specs.RefillCalls.{Serves}
use Rattle.guest_course.specs.StepCalls.{TrapsFor}
use Rattle.guest_course.proofs.LiveLemmas.{none-dead}
use Rattle.guest_course.proofs.course.Course.refill.Goals as goal

pub lost-requires-clause-traps : goal.lost-requires-clause-traps
lost-requires-clause-traps c = subst (TrapsFor (state_of c.args.self.now) c.args.processor.0 c.args.vcpu.0) c.in-Some.ensures.some c.requires.traps

pub give_half-requires-clause-alive : goal.give_half-requires-clause-alive
give_half-requires-clause-alive c = none-dead (state_of c.args.self.now) c.args.processor.0 c.args.vcpu.0 c.args.cause c.requires.traps c.in-None.ensures.none

pub returns-in-Some-clause-serves : goal.returns-in-Some-clause-serves
returns-in-Some-clause-serves c =
    let s = state_of c.args.self.now in
    subst (λ (x : TrapCause). Serves s c.args.processor.0 c.args.vcpu.0 x s c.lost.result) (sym c.in-Some.ensures.some) c.lost.ensures.serves

-- What goes out leaves the guest as it is.
use Rattle.std.proofs.Common.{sym, subst}
use Rattle.guest_course.specs.CourseRules.{IsSound}
use Rattle.guest_course.specs.declared.course.Course.{Course}
use Rattle.course_tests.proofs.guest_course_turns.make.Goals as goal

pub carry_out-requires-clause-sound : goal.carry_out-requires-clause-sound
carry_out-requires-clause-sound g c = subst (λ (x : Course). IsSound x) (sym c.outgoing.ensures.same) c.requires.sound

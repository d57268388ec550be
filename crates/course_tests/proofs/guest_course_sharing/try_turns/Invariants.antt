use Rattle.guest_course.specs.CourseRules.{IsSound}
use Rattle.course_tests.proofs.guest_course_sharing.try_turns.Given as goal

abbrev pub invariant-loop-answer : goal.invariant-loop-answer
invariant-loop-answer g l = IsSound l.course

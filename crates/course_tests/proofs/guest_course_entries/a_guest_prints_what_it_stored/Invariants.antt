use Rattle.guest_course.specs.CourseRules.{IsSound}
use Rattle.course_tests.proofs.guest_course_entries.a_guest_prints_what_it_stored.Given as goal

abbrev pub invariant-loop-entry : goal.invariant-loop-entry
invariant-loop-entry g l = IsSound l.course

use Rattle.guest_course.specs.CourseRules.{IsSound}
use Rattle.course_tests.proofs.guest_course_entries.a_packet_comes_into_the_armed_page.Given as goal

abbrev pub invariant-loop-entry : goal.invariant-loop-entry
invariant-loop-entry g l = IsSound l.course

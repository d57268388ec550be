use Rattle.std.proofs.Common.{ℕ, ◌<◌}
use Rattle.course_tests.specs.Lacking.{LacksFrame}
use Rattle.course_tests.proofs.guest_course_turns.is_foreign.Given as goal

-- the pages so far have nothing to do with the frame
abbrev pub invariant-loop-page : goal.invariant-loop-page
invariant-loop-page l = (q : ℕ) → q < l.page → LacksFrame l.frame.0 l.course.pmap.pages q

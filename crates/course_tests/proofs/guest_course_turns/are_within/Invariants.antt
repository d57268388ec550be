use Rattle.std.proofs.Common.{ℕ, ◌<◌}
use Rattle.private_machine.specs.Backing.{page_at}
use Rattle.course_tests.proofs.guest_course_turns.are_within.Given as goal

-- the pages so far lie in frames of the machine
abbrev pub invariant-loop-page : goal.invariant-loop-page
invariant-loop-page l = (q : ℕ) → q < l.page → (page_at l.course.pmap.pages q).master.frame < l.frames

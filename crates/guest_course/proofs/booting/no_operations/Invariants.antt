use Rattle.std.proofs.Common.{◌≡◌, replicate, None}
use Rattle.guest_course.proofs.booting.no_operations.Given as goal

abbrev pub invariant-loop-page : goal.invariant-loop-page
invariant-loop-page l = l.operations.items ≡ replicate l._page None

-- By what was left.
use Rattle.guest_course.proofs.WantingLemmas.{takes-memory}
use Rattle.guest_course.proofs.wanting.acts_take_memory.Goals as goal

pub returns : goal.returns
returns c = takes-memory

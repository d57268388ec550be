use Rattle.guest_course.proofs.TakenLemmas.{taken-where-ready}
use Rattle.guest_course.proofs.laws.ready_pages_are_taken.Goals as goal

pub returns : goal.returns
returns c = taken-where-ready

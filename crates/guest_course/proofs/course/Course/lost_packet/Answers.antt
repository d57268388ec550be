-- The packet's cell is dead.
use Rattle.std.proofs.Common.{option_map, refl, sym, ap, ◌∙◌}
use Rattle.guest_course.specs.CourseView.{hand_of}
use Rattle.guest_course.proofs.course.Course.lost_packet.Goals as goal

pub returns-then-is_dead-clause-some : goal.returns-then-is_dead-clause-some
returns-then-is_dead-clause-some c = (record { packet = hand_of c.in-Some.packet; in_hand = ap (option_map hand_of) c.in-Some.is; lost = sym c.is_dead.ensures ∙ c.if-is_dead.true }, refl)

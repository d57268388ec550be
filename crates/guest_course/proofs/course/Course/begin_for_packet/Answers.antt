-- The packet in hand asks for it.
use Rattle.std.proofs.Common.{refl}
use Rattle.base_words.specs.declared.moves.By.TheVariants.{Packet}
use Rattle.guest_course.specs.CourseView.{state_of}
use Rattle.guest_course.proofs.NeededProofs.{packet-asks}
use Rattle.guest_course.proofs.course.Course.begin_for_packet.Goals as goal

pub begin_asked-requires-clause-asked : goal.begin_asked-requires-clause-asked
begin_asked-requires-clause-asked c =
    let old = c.args.self.now in
    (Packet, packet-asks (state_of old) c.args.page.0 c.args.kind old.hand refl c.requires.in_hand c.requires.armed c.requires.lives c.requires.needs)

pub returns-clause-begins : goal.returns-clause-begins
returns-clause-begins c =
    let old = c.args.self.now in
    c.begin_asked.ensures.begins Packet (packet-asks (state_of old) c.args.page.0 c.args.kind old.hand refl c.requires.in_hand c.requires.armed c.requires.lives c.requires.needs)

-- A page that is shared is as long as it was.
use Rattle.std.proofs.Common.{◌≡◌, length, arith}
use Rattle.std.proofs.lemmas.List.{length-take}
use Rattle.course_tests.proofs.guest_course_packets.whole_packet.Goals as goal

pub returns-clause-whole : goal.returns-clause-whole
returns-clause-whole g c =
    let whole : length c.in-Ok.page.value.value ≡ 4096 = rw c.in-Ok.ensures.ok c.page_of-letter.ensures in
    simp length-take (omega (arith, whole))

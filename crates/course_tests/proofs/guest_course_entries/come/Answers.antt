-- The packet hands on no frame.
use Rattle.std.proofs.Common.{arith}
use Rattle.course_tests.proofs.guest_course_entries.come.Goals as goal

pub take_in_hand-requires-clause-fits : goal.take_in_hand-requires-clause-fits
take_in_hand-requires-clause-fits g c =
    let long = c.packet.ensures.long in
    let copied = c.packet.ensures.copied in
    record {
      few = omega (arith, long);
      whole = λ handed is. absurd cc;
    }

-- A whole page and a number go on any wire.
use Rattle.frame_tests.proofs.wire_queue_packets.a_whole_page_and_a_copy_go_in_order.Goals as goal

pub send-requires-clause-fits : goal.send-requires-clause-fits
send-requires-clause-fits g c = c.whole-packet.ensures c.two_guests-wires.result.0 c.two_guests-wires.ensures.terms

pub send-requires-2-clause-fits : goal.send-requires-2-clause-fits
send-requires-2-clause-fits g c = c.numbered-packet.ensures c.two_guests-wires.result.0

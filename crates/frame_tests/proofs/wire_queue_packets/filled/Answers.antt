-- A number goes on any wire.
use Rattle.frame_tests.proofs.wire_queue_packets.filled.Goals as goal

pub send-requires-clause-fits : goal.send-requires-clause-fits
send-requires-clause-fits g c = c.numbered-last.ensures c.args.wires.now

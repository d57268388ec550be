-- A number goes on any wire.
use Rattle.frame_tests.proofs.wire_queue_soak.send_all.Goals as goal

pub deliver-requires-clause-fits : goal.deliver-requires-clause-fits
deliver-requires-clause-fits g c = c.numbered-packet.ensures c.args.wires.now

use Rattle.frame_tests.proofs.virtual_subnet_packets.a_packet_comes_from_the_wire_as_it_was_offered.Goals as goal

-- each packet goes on the wire from guest 0 to guest 1
pub carried-requires-clause-fits : goal.carried-requires-clause-fits
carried-requires-clause-fits g c = c.packet-offered.ensures.fits c.two_guests-wires.result.0 c.two_guests-wires.ensures.terms

pub carried-requires-2-clause-fits : goal.carried-requires-2-clause-fits
carried-requires-2-clause-fits g c = c.packet-offered-2.ensures.fits c.two_guests-wires.result.0 c.two_guests-wires.ensures.terms

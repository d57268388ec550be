use Rattle.std.proofs.Common.{◌*◌, ◌<◌, length, sym, subst, arith}
use Rattle.wire_queue.specs.Between.{line_between}
use Rattle.wire_queue.specs.Packets.{packet_of}
use Rattle.wire_queue.specs.declared.terms.Terms.{Terms}
use Rattle.frame_tests.proofs.virtual_subnet_packets.sent.Goals as goal

-- the packet goes on the wire from guest 0 to guest 1
pub carried-requires-clause-fits : goal.carried-requires-clause-fits
carried-requires-clause-fits g c = c.packet-offered.ensures.fits c.two_guests-wires.result.0 c.two_guests-wires.ensures.terms

-- its frame is one of the machine's
pub returns : goal.returns
returns g c = λ handed is.
    let wires = c.two_guests-wires.result.0 in
    let terms = c.two_guests-wires.ensures.terms in
    let some : 0 < wires.terms.frames = subst (λ (t : Terms). 0 < t.frames) (sym terms) (omega arith) in
    let below : handed.frame < length wires.terms.cells * wires.terms.frames = c.frames_on_wires.ensures (line_between wires 0 1) (packet_of c.in-Some.taken) some c.in-Some.ensures.fits handed is in
    subst (λ (t : Terms). handed.frame < length t.cells * t.frames) terms below

use Rattle.std.proofs.Common.{◌≡◌, Some, sym, subst, ◌∙◌}
use Rattle.wire_queue.specs.Packets.{packet_of}
use Rattle.wire_queue.specs.Lines.{Fits}
use Rattle.wire_queue.specs.PassLists.{sending_to}
use Rattle.wire_queue.proofs.Callers.{found, line-between, of_between, wire_to}
use Rattle.wire_queue.proofs.lists.PassList.send.Goals as goal

pub send-requires-clause-of : goal.send-requires-clause-of
send-requires-clause-of g c =
    let there : sending_to c.args.self.now c.args.to.0 ≡ Some c.in-Some.pass = found c.args.self.now.sends.items c.args.to.0 c.index_mut.result.now c.requires.there c.index_mut.ensures.value ∙ c.in-Some.is in
    of_between c.args.wires.now c.args.self.now.guest.0 c.args.to.0 c.in-Some.pass.wire (wire_to c.args.wires.now c.args.self.now c.args.to.0 c.in-Some.pass c.requires.of there)

pub send-requires-clause-fits : goal.send-requires-clause-fits
send-requires-clause-fits g c =
    let there : sending_to c.args.self.now c.args.to.0 ≡ Some c.in-Some.pass = found c.args.self.now.sends.items c.args.to.0 c.index_mut.result.now c.requires.there c.index_mut.ensures.value ∙ c.in-Some.is in
    let is = wire_to c.args.wires.now c.args.self.now c.args.to.0 c.in-Some.pass c.requires.of there in
    subst (λ line. Fits line (packet_of c.args.packet)) (sym (line-between c.args.wires.now c.args.self.now.guest.0 c.args.to.0 c.in-Some.pass.wire is)) c.requires.fits

use Rattle.std.proofs.Common.{◌≡◌, Some, ◌∙◌}
use Rattle.wire_queue.specs.PassLists.{sending_to}
use Rattle.wire_queue.proofs.Callers.{found, of_between, wire_to, both_ends}
use Rattle.wire_queue.proofs.lists.PassList.has_taken.Goals as goal

pub empty-requires-clause-of : goal.empty-requires-clause-of
empty-requires-clause-of g c =
    let wires = c.args.wires.now in
    let receiver = c.args.self.now in
    let sender = c.args.sender.now in
    let from = c.in-Some.from in
    let stands = both_ends wires receiver sender c.requires.of.0 c.requires.of.1 c.requires.there in
    let there : sending_to sender receiver.guest.0 ≡ Some from = found sender.sends.items receiver.guest.0 c.index_mut.result.now stands c.index_mut.ensures.value ∙ c.in-Some.is in
    of_between wires sender.guest.0 receiver.guest.0 from.wire (wire_to wires sender receiver.guest.0 from c.requires.of.1 there)

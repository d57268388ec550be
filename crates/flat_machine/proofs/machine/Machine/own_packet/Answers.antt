use Rattle.std.proofs.Common.{◌≡◌, map, ap, ◌∙◌, arith}
use Rattle.std.proofs.lemmas.List.{with_items_is}
use Rattle.private_machine.specs.Links.{unlinked_page}
use Rattle.private_machine.specs.Showing.{shown_by}
use Rattle.flat_machine.proofs.SoundLemmas.{shown_by-unlinked_page}
use Rattle.flat_machine.proofs.machine.Machine.own_packet.Goals as goal

pub packet_by-requires-clause-agree : goal.packet_by-requires-clause-agree
packet_by-requires-clause-agree c =
    let m = c.args.self.now in
    let page = c.in-Some.page.0 in
    let made : c.unlink_page.new.vcpus ≡ map (unlinked_page page) m.vcpus.items = c.unlink_page.ensures ∙ ap (map (unlinked_page page)) c.deref_mut-in-Some.ensures.value in
    ap (map shown_by) (c.deref_mut-in-Some-2.ensures.value ∙ with_items_is m.vcpus c.unlink_page.new.vcpus (omega arith) ∙ made)
    ∙ shown_by-unlinked_page page m.vcpus.items ∙ c.requires.sound.agree

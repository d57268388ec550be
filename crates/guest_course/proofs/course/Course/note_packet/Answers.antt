-- The links of a page go, and what the virtual processors show stays.
use Rattle.std.proofs.Common.{map, length, ap, ◌∙◌}
use Rattle.private_machine.specs.Links.{unlinked_page}
use Rattle.private_machine.specs.Showing.{shown_by}
use Rattle.guest_course.proofs.VecLemmas.{items-with}
use Rattle.guest_course.proofs.TaskLemmas.{shown-unlinked}
use Rattle.guest_course.proofs.course.Course.note_packet.Goals as goal

pub packet_by-requires-clause-agree : goal.packet_by-requires-clause-agree
packet_by-requires-clause-agree c =
    let q = c.args.page.0 in
    let old = c.args.self.now.vcpus in
    let items = items-with old c.unlink_page.new.vcpus (c.unlink_page.auto.vcpus ∙ ap length c.deref_mut.ensures.value) in
    ap (map shown_by) (c.deref_mut-2.ensures.value ∙ items ∙ c.unlink_page.ensures ∙ ap (map (unlinked_page q)) c.deref_mut.ensures.value)
    ∙ shown-unlinked q old.items ∙ c.requires.agree

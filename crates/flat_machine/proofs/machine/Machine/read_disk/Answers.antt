use Rattle.std.proofs.Common.{◌≡◌, ◌*◌, length, map, ap, sym, ◌∙◌, arith}
use Rattle.std.proofs.lemmas.List.{with_items_is, length-set, length-map}
use Rattle.private_machine.specs.Links.{unlinked_page}
use Rattle.private_machine.specs.Showing.{shown_by, shown_from}
use Rattle.guest_devs.specs.DeviceState.{DeviceState}
use Rattle.flat_machine.proofs.SoundLemmas.{shown_by-unlinked_page}
use Rattle.flat_machine.proofs.machine.Machine.read_disk.Goals as goal

pub returns-else-transfer-self-clause-sound : goal.returns-else-transfer-self-clause-sound
returns-else-transfer-self-clause-sound c =
    let m = c.args.self.now in
    let sound = c.requires.sound in
    let set = c.set_status-else-transfer-self.ensures in
    let page = c.transfer-transfer.result.page in
    let bytes = with_items_is m.memory c.fill_page.new.memory (omega arith) in
    let made : c.unlink_page.new.vcpus ≡ map (unlinked_page page) m.vcpus.items = c.unlink_page.ensures ∙ ap (map (unlinked_page page)) c.deref_mut-else-transfer-self.ensures.value in
    let vcpus = with_items_is m.vcpus c.unlink_page.new.vcpus (omega arith) ∙ made in
    let long : length c.fill_page.new.memory ≡ 4096 * m.pages = omega (arith, sound.whole) in record {
      whole = ap length bytes ∙ long;
      pages = ap (λ (d : DeviceState). d.pages) set.status ∙ sound.pages;
      transfers = ap (λ (d : DeviceState). length d.page.transfers) set.status ∙ length-set m.devs.state.page.transfers _ _ ∙ sound.transfers ∙ sym (ap length vcpus ∙ length-map m.vcpus.items (unlinked_page page));
      agree = ap (map shown_by) vcpus ∙ shown_by-unlinked_page page m.vcpus.items ∙ sound.agree ∙ sym (ap (λ (d : DeviceState). shown_from d.packet d.halted d.called) set.status);
      armed = λ q is. sound.armed q (sym (ap (λ (d : DeviceState). d.page.armed) set.status) ∙ is);
      empty = sound.empty;
      room = λ ready. let room = sound.room ready in record {
        print = rw set.print_room room.print;
        send = rw set.send_room room.send;
        bytes = room.bytes;
      };
    }

use Rattle.std.proofs.Common.{◌≡◌, ◌*◌, length, map, ap, sym, ◌∙◌, arith}
use Rattle.std.proofs.lemmas.List.{with_items_is}
use Rattle.private_machine.specs.Showing.{shown_by}
use Rattle.private_machine.specs.Links.{unlinked_others}
use Rattle.flat_machine.proofs.SoundLemmas.{shown_by-unlinked_others, length-unlinked_others}
use Rattle.flat_machine.proofs.machine.Machine.write.Goals as goal

pub returns-clause-sound : goal.returns-clause-sound
returns-clause-sound c =
    let m = c.args.self.now in
    let sound = c.requires.sound in
    let made : c.unlink_others.new.vcpus ≡ unlinked_others c.args.line c.args.vcpu.0 m.vcpus.items = c.unlink_others.ensures ∙ ap (unlinked_others c.args.line c.args.vcpu.0) c.deref_mut-2.ensures.value in
    let bytes = with_items_is m.memory c.set_word_around.new.memory (omega arith) in
    let vcpus = with_items_is m.vcpus c.unlink_others.new.vcpus (omega arith) ∙ made in
    let long : length c.set_word_around.new.memory ≡ 4096 * m.pages = omega (arith, sound.whole) in record {
      whole = ap length bytes ∙ long;
      pages = sound.pages;
      transfers = sound.transfers ∙ sym (length-unlinked_others c.args.line c.args.vcpu.0 m.vcpus.items) ∙ sym (ap length vcpus);
      agree = ap (map shown_by) vcpus ∙ shown_by-unlinked_others c.args.line c.args.vcpu.0 m.vcpus.items ∙ sound.agree;
      armed = sound.armed;
      empty = sound.empty;
      room = sound.room;
    }

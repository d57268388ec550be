use Rattle.std.proofs.Common.{◌≡◌, map, length, ap, sym, ◌∙◌, None, Some, arith}
use Rattle.std.proofs.lemmas.List.{length-replicate}
use Rattle.private_machine.specs.DevicePage.{nothing_set}
use Rattle.private_machine.specs.Vcpu.{started}
use Rattle.private_machine.specs.Showing.{shown_by, shown_from}
use Rattle.guest_devs.specs.DeviceState.{DeviceState}
use Rattle.flat_machine.proofs.BootLemmas.{shown_by-started}
use Rattle.flat_machine.proofs.flat.Flat.boot.Goals as goal

pub invariant_of-result : goal.invariant_of-result
invariant_of-result c =
    let entry = c.args.image.now.entry in
    let n = c.args.vcpus in
    let devs = c.in_ok-new.ensures in
    let vcpus = c.in_ok-new_vcpus.ensures in
    let count = length-replicate n (started entry) in record {
      sound = record {
        whole = omega (arith, c.in_ok-memory_from.ensures.whole, c.in-Ok.ensures, c.len.ensures, ap length c.as_slice.ensures);
        pages = ap (λ (d : DeviceState). d.pages) devs;
        transfers = ap (λ (d : DeviceState). length d.page.transfers) devs ∙ length-replicate n nothing_set ∙ sym (ap length vcpus ∙ count);
        agree = ap (map shown_by) vcpus ∙ shown_by-started n entry ∙ sym (ap (λ (d : DeviceState). shown_from d.packet d.halted d.called) devs);
        armed = λ page is. absurd (let none : None ≡ Some page = sym (ap (λ (d : DeviceState). d.page.armed) devs) ∙ is in cc);
        empty = c.new-3.ensures.items;
        room = λ ready. absurd cc;
      };
      some = omega (arith, ap length vcpus, count, c.requires);
    }

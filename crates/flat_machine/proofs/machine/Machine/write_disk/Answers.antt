use Rattle.std.proofs.Common.{◌≡◌, ℕ, ◌*◌, List, length, take, drop, set, ap, sym, ◌∙◌, arith}
use Rattle.guest_devs.specs.DeviceState.{DeviceState}
use Rattle.private_machine.specs.DeviceRegisters.{with_status}
use Rattle.std.specs.Box.{with_value}
use Rattle.std.proofs.lemmas.List.{length-take, length-map}
use Rattle.std.specs.Global.{Box}
use Rattle.base_words.specs.declared.page.Page.{Page}
use Rattle.flat_machine.specs.FlatView.{blocks_of, machine_of}
use Rattle.flat_machine.proofs.DiskLemmas.{length-page, filled-all, blocks_of-set, disk_done-write}
use Rattle.flat_machine.proofs.machine.Machine.write_disk.Goals as goal

pub fill_from-requires : goal.fill_from-requires
fill_from-requires c = rw c.page_bytes-bytes.ensures (simp length-take (omega arith))

pub returns-else-transfer-self-clause-done : goal.returns-else-transfer-self-clause-done
returns-else-transfer-self-clause-done c =
    let m = c.args.self.now in
    let page = c.transfer-transfer.result.page in
    let block = c.transfer-transfer.result.block in
    let bytes = take 4096 (drop (page * 4096) m.memory.items) in
    let read : c.page_bytes-bytes.result.now ≡ bytes = c.page_bytes-bytes.ensures ∙ ap (λ memory. take 4096 (drop (page * 4096) memory)) c.deref.ensures.value in
    let long : length c.page_bytes-bytes.result.now ≡ 4096 = ap length read ∙ length-page m.memory.items m.pages page c.requires.sound.whole (omega arith) in
    let filled : c.fill_from.new.self ≡ bytes = filled-all c.deref_mut.result.now c.page_bytes-bytes.result.now c.fill_from.new.self c.fill_from.ensures.whole long c.fill_from.ensures.filled ∙ read in
    let disk = blocks_of-set m.disk.items block (with_value c.index_mut.result.now c.fill_from.new.self) ∙ ap (set (blocks_of m.disk.items) block) filled in
    let old = machine_of m in
    ap (λ (d : DeviceState). record old { devices = d.page; disk = blocks_of (set m.disk.items block (with_value c.index_mut.result.now c.fill_from.new.self)) }) c.set_status-else-transfer-self.ensures.status
    ∙ ap (λ (blocks : List (List ℕ)). record old { devices = with_status c.args.vcpu.0 0 old.devices; disk = blocks }) disk
    ∙ sym (disk_done-write old c.args.vcpu.0 c.transfer-transfer.result c.transfer-transfer.ensures (omega (arith, length-map m.disk.items (λ (b : Box Page). b.value), c.len.ensures, c.if-block-len.false)) (omega arith))

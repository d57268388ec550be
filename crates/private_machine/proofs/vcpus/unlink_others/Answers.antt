use Rattle.std.proofs.Common.{sym, ap, ◌∙◌}
use Rattle.private_machine.specs.Vcpu.{no_vcpu}
use Rattle.private_machine.specs.Links.{unlinked, unlinked_others}
use Rattle.private_machine.proofs.Turns.{SoFar-suc, SoFar-skip, item-same}
use Rattle.private_machine.proofs.VcpuLists.{get_or-unlinked_same, get_or-unlinked_other}
use Rattle.private_machine.proofs.vcpus.unlink_others.Goals as goal
use Rattle.private_machine.proofs.vcpus.unlink_others.Goals.{then-number-storing, else-number-storing}

pub loop-number-preserved : goal.loop-number-preserved
loop-number-preserved c =
    let k = c.loop-number.number in
    let now = c.loop-number.vcpus in
    let old = c.args.vcpus.now in
    let line = c.args.line in
    let v = c.args.storing in
    let goal_list = unlinked_others line v old in
    elim c.if-number-storing.branch [
      | then-number-storing w ↦
          let d = w.index-vcpus-number.result in
          rw w.vcpus-is
          (SoFar-suc k now old goal_list w.unlink.new.self d c.loop-number-test.true c.loop-number.invariant
          (w.unlink.ensures ∙ ap (unlinked line) (item-same k now old goal_list d c.loop-number.invariant) ∙ sym (get_or-unlinked_other line v k old d w.if-number-storing.true c.loop-number-test.true)))
      | else-number-storing w ↦ rw w.vcpus-is (SoFar-skip k now old goal_list no_vcpu c.loop-number-test.true c.loop-number.invariant
          (sym (get_or-unlinked_same line v k old no_vcpu w.if-number-storing.false c.loop-number-test.true)))
    ]

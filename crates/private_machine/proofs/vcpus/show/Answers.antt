use Rattle.std.proofs.Common.{◌≡◌, sym, ap, ◌∙◌, ◌&&◌, ◌==◌, map, get_or, false, arith}
use Rattle.std.proofs.lemmas.Grind.{common_steps}
use Rattle.std.proofs.lemmas.Bool.Decides.{nat_tests}
use Rattle.private_machine.specs.Showing.{shown_by, showing, showing_from}
use Rattle.private_machine.proofs.Turns.{SoFar-zero, SoFar-suc, SoFar-end, item-same}
use Rattle.private_machine.proofs.VcpuLists.{length-showing_from, get_or-showing_from, shown_by-showing_from}
use Rattle.private_machine.proofs.vcpus.show.Goals as goal
use Rattle.private_machine.proofs.vcpus.show.Goals.{then-number-eq0, else-number-eq0}

pub loop-number-init : goal.loop-number-init
loop-number-init c =
    SoFar-zero c.args.vcpus.now (showing_from c.args.packet c.args.halted.now c.args.called.now c.args.vcpus.now)
    (length-showing_from c.args.packet c.args.halted.now c.args.called.now c.args.vcpus.now)

pub loop-number-preserved : goal.loop-number-preserved
loop-number-preserved c =
    let k = c.loop-number.number in
    let now = c.loop-number.vcpus in
    let old = c.args.vcpus.now in
    let hs = c.args.halted.now in
    let cs = c.args.called.now in
    let p = c.args.packet in
    let all = showing_from p hs cs old in
    let d = c.index-vcpus-number.result in
    let first : c.if-number-eq0.show ≡ ((k == 0) && p) = elim c.if-number-eq0.branch [
      | then-number-eq0 w ↦ grind (arith, common_steps, nat_tests)
      | else-number-eq0 w ↦ grind (arith, common_steps, nat_tests)
    ] in
    SoFar-suc k now old all c.show.new.self d c.loop-number-test.true c.loop-number.invariant
    (c.show.ensures
    ∙ ap (λ b. showing (get_or hs k false) (get_or cs k false) b (get_or now k d)) first
    ∙ ap (showing (get_or hs k false) (get_or cs k false) ((k == 0) && p)) (item-same k now old all d c.loop-number.invariant)
    ∙ sym (get_or-showing_from p hs cs old k d c.requires.halted c.requires.called c.loop-number-test.true))

pub returns-clause-shows : goal.returns-clause-shows
returns-clause-shows c =
    let all = showing_from c.args.packet c.args.halted.now c.args.called.now c.args.vcpus.now in
    ap (map shown_by) (SoFar-end c.loop-number.number c.loop-number.vcpus c.args.vcpus.now all (omega arith) c.loop-number.invariant)
    ∙ shown_by-showing_from c.args.packet c.args.halted.now c.args.called.now c.args.vcpus.now c.requires.halted c.requires.called

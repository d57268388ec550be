use Rattle.std.proofs.Common.{map, sym, ap, ◌∙◌}
use Rattle.std.proofs.lemmas.List.{get_or-map}
use Rattle.private_machine.specs.Links.{unlinked}
use Rattle.private_machine.proofs.Turns.{SoFar-suc, item-same}
use Rattle.private_machine.proofs.vcpus.unlink_all.Goals as goal

pub loop-number-preserved : goal.loop-number-preserved
loop-number-preserved c =
    let k = c.loop-number.number in
    let now = c.loop-number.vcpus in
    let old = c.args.vcpus.now in
    let f = unlinked c.args.line in
    let d = c.index-vcpus-number.result in
    SoFar-suc k now old (map f old) c.unlink.new.self d c.loop-number-test.true c.loop-number.invariant
    (c.unlink.ensures ∙ ap f (item-same k now old (map f old) d c.loop-number.invariant) ∙ sym (get_or-map f old k d d c.loop-number-test.true))

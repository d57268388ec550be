use Rattle.std.proofs.Common.{None, length, ◌≡◌, ◌∙◌, sym, arith}
use Rattle.std.proofs.lemmas.List.{ext_get_or, get_or-map, length-map}
use Rattle.private_machine.specs.SecondLevel.{unless_of_page}
use Rattle.l2_tlb.specs.Seconds.{seen}
use Rattle.l2_tlb.proofs.Places.{length-seen}
use Rattle.l2_tlb.proofs.groups.drop_marked.Goals as goal

pub returns-clause-dropped : goal.returns-clause-dropped
returns-clause-dropped c =
    let f = unless_of_page c.args.page.0 in
    let old = seen c.args.places.now in
    let now = seen c.loop-group.places in
    let old_all : length old ≡ 512 = length-seen c.args.places.now ∙ c.requires.places in
    let all : length now ≡ 512 = length-seen c.loop-group.places ∙ c.loop-group.invariant.length in
    ext_get_or None now _ (all ∙ sym (length-map old f ∙ old_all)) (λ k lt.
    c.loop-group.invariant.done k (omega (arith, all)) ∙ sym (get_or-map f old k None None (omega (arith, all, old_all))))

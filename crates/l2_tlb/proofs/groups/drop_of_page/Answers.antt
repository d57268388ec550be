use Rattle.std.proofs.Common.{◌<◌, None, length, get_or, sym, ap, ◌∙◌, arith}
use Rattle.std.proofs.lemmas.List.{get_or-set_same}
use Rattle.private_machine.specs.SecondLevel.{unless_of_page}
use Rattle.l2_tlb.specs.Seconds.{second_of, seen}
use Rattle.l2_tlb.specs.Marks.{is_of_kind}
use Rattle.l2_tlb.proofs.Places.{emptied, unless_of_page-gone, seen-set, length-seen}
use Rattle.l2_tlb.proofs.groups.drop_of_page.Goals as goal

pub returns-then-entry-page-clause-dropped : goal.returns-then-entry-page-clause-dropped
returns-then-entry-page-clause-dropped c =
    let e = c.in-Some.entry in
    emptied (unless_of_page c.args.page.0) c.args.places.now c.args.place e c.requires c.in-Some.is (unless_of_page-gone c.args.page.0 (second_of e) c.if-entry-page.true)

pub returns-then-entry-page-clause-stays : goal.returns-then-entry-page-clause-stays
returns-then-entry-page-clause-stays c =
    let xs = c.args.places.now in
    let k = c.args.place in
    let lt : k < length (seen xs) = omega (arith, length-seen xs) in
    sym (ap (λ ys. is_of_kind c.args.page.0 (get_or ys k None)) (seen-set xs k None) ∙ ap (is_of_kind c.args.page.0) (get_or-set_same (seen xs) k None None lt))

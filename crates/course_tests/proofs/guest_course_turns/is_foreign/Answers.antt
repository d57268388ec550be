use Rattle.std.proofs.Common.{sym, ◌∙◌, arith}
use Rattle.std.proofs.lemmas.List.{nil_from_length}
use Rattle.course_tests.proofs.LackingLemmas.{foreign}
use Rattle.course_tests.proofs.guest_course_turns.is_foreign.Goals as goal

pub returns : goal.returns
returns c = λ target at copy has same.
    let m = c.args.course.now.pmap in
    foreign m.pages m.spares c.args.frame.0 (nil_from_length m.spares (sym c.spares.ensures ∙ c.if-spares-ne0.false)) (λ q lt. c.loop-page.invariant q (let count = c.len-page-end.ensures in let all = c.loop-page-test.false in omega (arith, lt))) copy has (same ∙ at)

use Rattle.std.proofs.Common.{length, get_or, None, IsSome, sym, ap, subst, ◌∙◌, refl, arith}
use Rattle.std.proofs.lemmas.Bool.{false≢true}
use Rattle.cow_disk.specs.DiskView.{owns_of}
use Rattle.cow_disk.proofs.Parts.{count_seen, private_stands, written_seen, kept}
use Rattle.cow_disk.proofs.disk.Disk.write_block.Goals as goal

pub returns-then-block-count-clause-answer : goal.returns-then-block-count-clause-answer
returns-then-block-count-clause-answer c =
    (omega (arith, count_seen c.self.inside c.args.self.now c.self.view_is, ap length c.given-count.ensures), refl)

pub returns-in_err-make_places-clause-err : goal.returns-in_err-make_places-clause-err
returns-in_err-make_places-clause-err c =
    kept c.from_residual.result c.self.inside c.args.self.now c.make_places.new.overlay.items c.self.view_is c.make_places.ensures.same

pub returns-in_err-make_places-clause-past : goal.returns-in_err-make_places-clause-past
returns-in_err-make_places-clause-past c = λ past.
    absurd (omega (arith, count_seen c.self.inside c.args.self.now c.self.view_is, ap length c.given-count.ensures))

pub returns-in_err-make_places-clause-again : goal.returns-in_err-make_places-clause-again
returns-in_err-make_places-clause-again c = λ some.
    absurd (false≢true (c.in_err-make_places.ensures.again (private_stands c.self.inside c.args.self.now c.args.block c.self.view_is c.self.invariant some).0))

pub returns-in_err-put-clause-err : goal.returns-in_err-put-clause-err
returns-in_err-put-clause-err c =
    kept c.from_residual-in_err-put.result c.self.inside c.args.self.now c.put.new.overlay.items c.self.view_is
    (λ k. ap (λ l. get_or (owns_of l) k None) c.in_err-put.ensures.err ∙ c.make_places.ensures.same k)

pub returns-in_err-put-clause-past : goal.returns-in_err-put-clause-past
returns-in_err-put-clause-past c = λ past.
    absurd (omega (arith, count_seen c.self.inside c.args.self.now c.self.view_is, ap length c.given-count.ensures))

pub returns-in_err-put-clause-again : goal.returns-in_err-put-clause-again
returns-in_err-put-clause-again c = λ some.
    let stands = (private_stands c.self.inside c.args.self.now c.args.block c.self.view_is c.self.invariant some).1 in
    absurd (false≢true (c.in_err-put.ensures.again (subst (λ o. IsSome o) (sym (c.make_places.ensures.same c.args.block)) stands)))

pub returns-clause-answer : goal.returns-clause-answer
returns-clause-answer c = (
  omega (arith, count_seen c.self.inside c.args.self.now c.self.view_is, ap length c.given-count.ensures),
  written_seen c.self.inside c.args.self.now c.args.block c.args.page.now c.make_places.new.overlay.items c.put.new.overlay.items c.self.view_is c.make_places.ensures.same
      c.in_ok-make_places.ensures.place c.in_ok-put.ensures.ok,
)

use Rattle.std.proofs.Common.{rules, ap, ◌∙◌}
use Rattle.shootdown.specs.Steps.{Own, first}
use Rattle.shootdown.specs.Making.{fresh_seat}
use Rattle.shootdown.proofs.Blanks.{one_more, first_is, rest-seats}
use Rattle.shootdown.proofs.making.cut_seats.Goals as goal

pub cut_seat-requires-clause-first : goal.cut_seat-requires-clause-first
cut_seat-requires-clause-first c =
    ap (λ (m : Own). first m.0.seats) c.loop-number.invariant.1 ∙ first_is c.loop-number.number c.args.count c.loop-number-test.true

pub loop-number-preserved : goal.loop-number-preserved
loop-number-preserved c =
    let i = c.loop-number.invariant in
    let cut = c.cut_seat.ensures in (
      search rules,
      rest-seats c.loop-number.number c.args.count _ _ c.loop-number-test.true i.1 cut.rest,
      one_more (fresh_seat c.args.all.now.table_id) _ _ _ c.loop-number.number i.2 (cut.seat ∙ ap (λ b. fresh_seat b c.loop-number.number) i.0) (search rules),
    )

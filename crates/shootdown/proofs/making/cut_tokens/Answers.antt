use Rattle.std.proofs.Common.{rules, ap, ◌∙◌}
use Rattle.shootdown.specs.Steps.{Own, first}
use Rattle.shootdown.specs.Making.{fresh_token}
use Rattle.shootdown.proofs.Blanks.{one_more, first_is, rest-tokens}
use Rattle.shootdown.proofs.making.cut_tokens.Goals as goal

pub cut_token-requires-clause-first : goal.cut_token-requires-clause-first
cut_token-requires-clause-first c =
    ap (λ (m : Own). first m.0.tokens) c.loop-number.invariant.1 ∙ first_is c.loop-number.number c.args.counts.tokens c.loop-number-test.true

pub loop-number-preserved : goal.loop-number-preserved
loop-number-preserved c =
    let i = c.loop-number.invariant in
    let cut = c.in_ok-cut_token.ensures in (
      search rules,
      rest-tokens c.loop-number.number c.args.counts.tokens c.args.counts.seats _ _ c.loop-number-test.true i.1 cut.rest,
      one_more (fresh_token c.args.all.now.table_id) _ _ _ c.loop-number.number i.2 (cut.token ∙ ap (λ b. fresh_token b c.loop-number.number) i.0) (search rules),
    )

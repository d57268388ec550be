use Rattle.std.proofs.Common.{rules, ap, ◌∙◌, sym, []}
use Rattle.page_slots.specs.Steps.{Own}
use Rattle.page_slots.specs.Views.{first, others, free_with}
use Rattle.page_slots.specs.Making.{fresh_caller}
use Rattle.page_slots.proofs.MakingLemmas.{one_more, first_is, others_are}
use Rattle.page_slots.proofs.making.cut_callers.Goals as goal

pub cut_caller-requires-clause-first : goal.cut_caller-requires-clause-first
cut_caller-requires-clause-first c =
    ap (λ (m : Own). first m.0.lists) c.loop-number.invariant.1 ∙ first_is c.loop-number.number c.args.count c.loop-number-test.true

pub cut_caller-requires-clause-free : goal.cut_caller-requires-clause-free
cut_caller-requires-clause-free c = c.loop-number.invariant.1 ∙ ap (λ (m : Own). (free_with m.0.lists, [])) (sym c.loop-number.invariant.1)

pub loop-number-preserved : goal.loop-number-preserved
loop-number-preserved c =
    let i = c.loop-number.invariant in
    let cut = c.cut_caller.ensures in (
      cut.table ∙ i.0,
      cut.left ∙ ap (λ (m : Own). (free_with (others m.0.lists), [])) i.1 ∙ ap (λ ls. (free_with ls, [])) (others_are c.loop-number.number c.args.count c.loop-number-test.true),
      one_more c.args.all.now.table_id _ _ _ c.loop-number.number i.2 (cut.caller ∙ ap (λ b. fresh_caller b c.loop-number.number) i.0) (search rules),
    )

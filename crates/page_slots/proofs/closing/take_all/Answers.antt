use Rattle.std.proofs.Common.{ap, sym, ◌∙◌, arith, rules, subst, List, Some, ◌+◌}
use lib.ListN.{get_elem?}
use Rattle.page_slots.specs.Closing.{AreTaken}
use Rattle.page_slots.specs.PageRule.{Slot}
use Rattle.page_slots.proofs.TakingLemmas.{not_none, taken-more, still_full, emptied}
use Rattle.page_slots.proofs.closing.take_all.Goals as goal

pub unreachable-requires : goal.unreachable-requires
unreachable-requires c =
    let i = c.loop-page.invariant in
    let home = c.requires.home c.loop-page.page c.loop-page-test.true in
    not_none _ c.loop-page.page home.0 _ (ap (λ l. get_elem? l c.loop-page.page) i.0 ∙ home.1) c.take.ensures.value c.in_default.is

pub loop-page-preserved : goal.loop-page-preserved
loop-page-preserved c =
    let i = c.loop-page.invariant in
    let o = c.take.ensures.others in
    let p = c.loop-page.page in (
      o.0 ∙ i.0,
      o.2 ∙ i.1,
      still_full _ _ p _ _ o.1 o.2 i.2,
      emptied _ _ p o.1 i.3,
      c.push_reserved.ensures.len ∙ ap (λ n. n + 1) i.4,
      (let a = c.push_reserved.ensures.capacity in let b = i.5 in omega arith),
      (let a = i.6 in search rules),
      taken-more _ _ _ p c.into_history.result _ (subst (λ (l : List Slot). AreTaken l c.loop-page.room.items) (sym o.0) i.7) i.6 (ap (λ l. get_elem? l p) o.0 ∙ c.take.ensures.value)
          (c.in-Some.is ∙ ap Some (sym c.into_history.ensures.same)) c.into_history.ensures.legal c.push_reserved.ensures.items,
    )

pub returns-clause-taken : goal.returns-clause-taken
returns-clause-taken c = subst (λ (l : List Slot). AreTaken l c.loop-page.room.items) c.loop-page.invariant.0 c.loop-page.invariant.7

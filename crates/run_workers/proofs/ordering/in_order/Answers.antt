use Rattle.std.proofs.Common.{rules, ◌≡◌, ◌<◌, ◌∙◌, ap, length}
use Rattle.std.proofs.lemmas.List.{with_items_is}
use Rattle.plan_due.specs.Dealt.{queue_of, front, without_front}
use Rattle.plan_due.specs.PlanDue.{slice_of, failure_of}
use Rattle.run_workers.specs.Parts.{outcomes_in, as_list}
use Rattle.run_workers.proofs.LoopLemmas.{deal-next, put-next}
use Rattle.run_workers.proofs.ordering.in_order.Goals as goal

pub loop-item-preserved : goal.loop-item-preserved
loop-item-preserved c =
    let i = c.loop-item.invariant in
    let n = c.loop-item.item-index in
    let items = c.args.items.now in
    let p = c.processor_of.result.0 in
    let old = outcomes_in c.loop-item.queues.items in
    let outcome = c.next_of-outcome.result in
    let now = c.next_of-outcome.new.queues in
    let value : c.deref_mut.result.now ≡ c.loop-item.queues.items = c.deref_mut.ensures.value in
    let same : length now ≡ c.loop-item.queues.len = c.next_of-outcome.ensures.same ∙ c.deref_mut.ensures.len in
    let all = with_items_is c.loop-item.queues now same in
    let first : as_list outcome ≡ front (queue_of old p) = c.next_of-outcome.ensures.first ∙ ap (λ q. front (queue_of (outcomes_in q) p)) value in
    let rest : outcomes_in now ≡ without_front old p = c.next_of-outcome.ensures.rest ∙ ap (λ q. without_front (outcomes_in q) p) value in
    let few : n < length items = search rules in
    let deal = deal-next items n _ p old few c.processor_of.ensures in
    let queues = ap outcomes_in all ∙ rest in (
      put-next slice_of c.loop-item.slices c.put.new.slices _ _ _ _ _ _ outcome c.in_ok-put.ensures.slices first deal queues i.0,
      put-next failure_of c.loop-item.failures c.put.new.failures _ _ _ _ _ _ outcome c.in_ok-put.ensures.failures first deal queues i.1,
      ap length all ∙ c.next_of-outcome.ensures.same ∙ ap length value ∙ i.2,
    )

use Rattle.std.proofs.Common.{rules, ◌≡◌, ◌<◌, ◌∙◌, sym, ap, [], length}
use Rattle.std.specs.Prelude.{slice_set, slice_index_or}
use Rattle.std.specs.Vec.Iter.{into_iter_items}
use Rattle.std.proofs.lemmas.List.{get_or-map}
use Rattle.plan_due.specs.Dealt.{queue_of, front, behind}
use Rattle.run_workers.specs.Parts.{outcomes_in}
use Rattle.run_workers.proofs.LoopLemmas.{map-set}
use Rattle.run_workers.proofs.ordering.next_of.Goals as goal

pub returns-clause-first : goal.returns-clause-first
returns-clause-first c =
    let queues = c.args.queues.now in
    let old = c.index-queues-number.result in
    let few : c.number.result < length queues = search rules in
    let at : queue_of (outcomes_in queues) c.number.result ≡ into_iter_items (slice_index_or queues c.number.result old) = get_or-map into_iter_items queues c.number.result old [] few in
    c.take_first.ensures.first ∙ ap front (sym at ∙ ap (queue_of (outcomes_in queues)) c.number.ensures)

pub returns-clause-rest : goal.returns-clause-rest
returns-clause-rest c =
    let queues = c.args.queues.now in
    let old = c.index-queues-number.result in
    let few : c.number.result < length queues = search rules in
    let at : queue_of (outcomes_in queues) c.number.result ≡ into_iter_items (slice_index_or queues c.number.result old) = get_or-map into_iter_items queues c.number.result old [] few in
    let items = c.take_first.ensures.rest ∙ ap behind (sym at) in
    map-set into_iter_items queues c.number.result _ ∙ (λ k. slice_set (outcomes_in queues) c.number.result (items k)) ∙ (λ k. slice_set (outcomes_in queues) (c.number.ensures k) (behind (queue_of (outcomes_in queues) (c.number.ensures k))))

use Rattle.std.proofs.Common.{◌≡◌, ◌<◌, List, Option, ℕ, length, sym, ap, subst, ◌∙◌}
use Rattle.std.specs.Global.{Vec}
use Rattle.wire_queue.specs.Between.{Made}
use Rattle.wire_queue.specs.PassTables.{sends_of, takes_of}
use Rattle.wire_queue.specs.WireParts.{ids_of}
use Rattle.wire_queue.specs.Closing.{IsInOrder, HasEnds, HasPlaces}
use Rattle.wire_queue.specs.declared.lists.PassList.{PassList}
use Rattle.wire_queue.specs.declared.wire.WireQueue.{WireQueue}
use Rattle.wire_queue.proofs.QueueTables.{count_ids}
use Rattle.wire_queue.proofs.ClosingLemmas.{places_of, ends_of, all_in_order}
use Rattle.wire_queue.proofs.wires.Wires.close.Goals as goal

pub settle_all-requires-clause-places : goal.settle_all-requires-clause-places
settle_all-requires-clause-places c =
    let queues : length c.args.self.queues ≡ c.self.inside.guests = ap (λ (w : Made). length w.queues) (sym c.self.view_is) ∙ count_ids c.self.inside.rows.items ∙ c.self.invariant in
    subst (HasPlaces c.self.inside.guests) (sym c.into_vec-lists.ensures) (places_of c.args.self c.args.passes c.self.inside.guests c.requires queues)

pub settle_all-requires-clause-ends : goal.settle_all-requires-clause-ends
settle_all-requires-clause-ends c = λ from.
    let same : ids_of c.as_slice.result.now ≡ c.args.self.queues = ap (λ (rows : List (Vec (Option WireQueue))). ids_of rows) c.as_slice.ensures.value ∙ ap (λ (w : Made). w.queues) c.self.view_is in
    subst (λ q. HasEnds q c.into_vec-lists.result.items from) (sym same)
    (subst (λ (l : List PassList). HasEnds c.args.self.queues l from) (sym c.into_vec-lists.ensures) (ends_of c.args.self c.args.passes c.requires from))

pub returns : goal.returns
returns c =
    let queues : length c.args.self.queues ≡ c.self.inside.guests = ap (λ (w : Made). length w.queues) (sym c.self.view_is) ∙ count_ids c.self.inside.rows.items ∙ c.self.invariant in
    all_in_order c.args.self c.args.passes c.self.inside.guests c.requires queues
    (subst (λ (l : List PassList). (from to : ℕ) → from < c.self.inside.guests → to < c.self.inside.guests → IsInOrder (sends_of l) (takes_of l) from to) c.into_vec-lists.ensures c.settle_all.ensures)

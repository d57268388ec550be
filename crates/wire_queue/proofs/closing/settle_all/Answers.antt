use Rattle.std.proofs.Common.{◌≢◌, sym, ap, subst, ◌∙◌, inl, inr, arith}
use Rattle.std.proofs.lemmas.Bool.{cases_eq}
use Rattle.wire_queue.specs.Between.{entry}
use Rattle.wire_queue.specs.PassTables.{sends_of, takes_of}
use Rattle.wire_queue.specs.WireParts.{ids_of}
use Rattle.wire_queue.specs.Closing.{IsInOrder}
use Rattle.wire_queue.proofs.ClosingLemmas.{in_order_as, ends_as}
use Rattle.wire_queue.proofs.closing.settle_all.Goals as goal

pub settle_sender-requires-clause-ends : goal.settle_sender-requires-clause-ends
settle_sender-requires-clause-ends c =
    let now = c.loop-from.invariant in
    let from = c.loop-from.from in
    ends_as (ids_of c.args.rows.now) c.args.lists.now.items c.loop-from.lists.items from now.sends (λ to. now.later from to (omega arith)) (c.requires.ends from)

pub loop-from-preserved : goal.loop-from-preserved
loop-from-preserved c =
    let now = c.loop-from.invariant in
    let one = c.settle_sender.ensures in
    let at = c.loop-from.from in
    let lists = c.loop-from.lists.items in
    let initial = c.args.lists.now.items in record {
      places = one.places;
      sends = one.sends ∙ now.sends;
      later = λ from to past. let other : from ≢ at = omega arith in one.others from to other ∙ now.later from to (omega arith);
      first = λ from to below to_there. elim (cases_eq from at) [
        | inl same ↦ subst (λ x. IsInOrder (sends_of initial) (takes_of initial) x to) (sym same)
            (in_order_as (sends_of lists) (sends_of initial) (takes_of lists) (takes_of initial) at to (ap (λ r. entry r at to) now.sends) (now.later at to (omega arith)) (one.first to to_there))
        | inr other ↦ now.first from to (omega arith) to_there
      ];
    }

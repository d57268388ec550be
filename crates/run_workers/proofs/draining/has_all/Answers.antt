-- One of the others after another is asked.
use Rattle.std.proofs.Common.{rules, ◌<◌, ◌≤◌, length, true, sym, ap, ◌∙◌, subst, arith}
use Rattle.guest_core.specs.GuestView.{Monitored, shared_by}
use Rattle.guest_core.specs.PacketCalls.{KeepsEnds}
use Rattle.wire_queue.specs.ListSteps.{HasTaken}
use Rattle.run_workers.proofs.DrainLemmas.{within, kept-set, ends-trans, told-more, others-kept}
use Rattle.run_workers.proofs.WholeLemmas.{get-there, get-index}
use Rattle.run_workers.proofs.draining.has_all.Goals as goal

pub drained-requires-clause-wires : goal.drained-requires-clause-wires
drained-requires-clause-wires g c =
    let i = c.loop-place.invariant in
    let others = c.loop-place.others in
    let place = c.loop-place.place in
    let lt : place < length others = search rules in
    let x = get-there others place lt in
    let is = (get-index others place x.0 c.index-others-place.result x.1).1 in
    let o = others-kept (shared_by c.args.resources.now) c.args.guest.now c.loop-place.guest c.args.others.now others c.requires.others i.0.ends.guest i.1 in
    (i.0.same.wires ∙ c.requires.wires, ap (λ (m : Monitored). m.wires) is ∙ o.wires place x.0 x.1)

pub drained-requires-clause-other : goal.drained-requires-clause-other
drained-requires-clause-other g c =
    let i = c.loop-place.invariant in
    let others = c.loop-place.others in
    let place = c.loop-place.place in
    let lt : place < length others = search rules in
    let x = get-there others place lt in
    let is = (get-index others place x.0 c.index-others-place.result x.1).1 in
    let o = others-kept (shared_by c.args.resources.now) c.args.guest.now c.loop-place.guest c.args.others.now others c.requires.others i.0.ends.guest i.1 in
    λ e. o.apart place x.0 x.1 (ap (λ (m : Monitored). m.passes.guest.0) (sym is) ∙ e)

pub returns-then-not-drained-clause-kept : goal.returns-then-not-drained-clause-kept
returns-then-not-drained-clause-kept g c =
    let i = c.loop-place.invariant in
    let others = c.loop-place.others in
    let place = c.loop-place.place in
    let lt : place < length others = search rules in
    let x = get-there others place lt in
    let is = (get-index others place x.0 c.index-others-place.result x.1).1 in
    kept-set c.args.others.now others place x.0 c.drained.new.from i.1 x.1 (subst (λ (m : Monitored). KeepsEnds m c.drained.new.from) is c.drained.ensures.stays.1)

pub loop-place-preserved : goal.loop-place-preserved
loop-place-preserved g c =
    let i = c.loop-place.invariant in
    let others = c.loop-place.others in
    let place = c.loop-place.place in
    let lt : place < length others = search rules in
    let x = get-there others place lt in
    let is = (get-index others place x.0 c.index-others-place.result x.1).1 in
    let stays : KeepsEnds x.0 c.drained.new.from = subst (λ (m : Monitored). KeepsEnds m c.drained.new.from) is c.drained.ensures.stays.1 in
    let answer : HasTaken c.loop-place.guest.passes x.0.passes true = subst (λ (m : Monitored). HasTaken c.loop-place.guest.passes m.passes true) is c.if-not-drained.ensures.answer in (
      ends-trans c.args.guest.now c.loop-place.guest c.drained.new.self i.0 c.drained.ensures.stays.0,
      kept-set c.args.others.now others place x.0 c.drained.new.from i.1 x.1 stays,
      told-more c.loop-place.guest c.drained.new.self others place x.0 c.drained.new.from i.2 c.drained.ensures.stays.0 stays answer,
    )

pub returns-clause-all : goal.returns-clause-all
returns-clause-all g c = λ i sender at armed.
    let lt = within c.loop-place.others i sender at in
    let past : length c.loop-place.others ≤ c.loop-place.place = search rules in
    c.loop-place.invariant.2 i sender (omega (arith, lt, past)) at

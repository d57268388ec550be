use Rattle.std.proofs.Common.{Some, set, refl, sym, ap, ◌∙◌}
use Rattle.std.proofs.lemmas.List.{set-get_or}
use Rattle.wire_queue.proofs.Tables.{kept}
use Rattle.wire_queue.proofs.closing.settle_wire.Goals as goal

pub returns-clause-sends : goal.returns-clause-sends
returns-clause-sends c =
    let list = c.index_mut.result.now in
    let sends = list.sends.items in
    let to = c.args.to.0 in
    kept (λ list. list.sends.items) c.take_out.new.lists.items c.args.from.0 list _ c.index_mut.ensures.value
    (ap (set sends to) (ap Some c.settle.ensures.same ∙ sym c.in-Some-index_mut.is ∙ c.index_mut-2.ensures.value) ∙ set-get_or sends to c.index_mut-2.result.now)
    ∙ c.take_out.ensures.sends

pub returns-clause-takes : goal.returns-clause-takes
returns-clause-takes c =
    kept (λ list. list.takes.items) c.take_out.new.lists.items c.args.from.0 c.index_mut.result.now _ c.index_mut.ensures.value refl ∙ c.take_out.ensures.takes

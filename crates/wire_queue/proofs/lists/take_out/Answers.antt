use Rattle.std.proofs.Common.{set, refl, ap}
use Rattle.wire_queue.proofs.Tables.{kept, changed}
use Rattle.wire_queue.proofs.lists.take_out.Goals as goal

pub returns-clause-sends : goal.returns-clause-sends
returns-clause-sends c = kept (λ list. list.sends.items) c.args.lists.now.items c.args.to.0 c.index_mut.result.now _ c.index_mut.ensures.value refl

pub returns-clause-takes : goal.returns-clause-takes
returns-clause-takes c =
    changed (λ list. list.takes.items) c.args.lists.now.items c.args.to.0 c.args.from.0 c.index_mut.result.now _ _ c.requires.row c.index_mut.ensures.value
    (ap (set c.index_mut.result.now.takes.items c.args.from.0) c.take.ensures.after)

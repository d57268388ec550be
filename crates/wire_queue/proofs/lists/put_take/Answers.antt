use Rattle.std.proofs.Common.{length, refl}
use Rattle.wire_queue.proofs.Tables.{kept, changed}
use Rattle.wire_queue.proofs.lists.put_take.Goals as goal

pub returns-clause-sends : goal.returns-clause-sends
returns-clause-sends c = kept (λ list. list.sends.items) c.args.lists.now.items c.args.to.0 c.index_mut.result.now _ c.index_mut.ensures.value refl

pub returns-clause-takes : goal.returns-clause-takes
returns-clause-takes c = changed (λ list. list.takes.items) c.args.lists.now.items c.args.to.0 c.args.from.0 c.index_mut.result.now _ _ c.requires.row c.index_mut.ensures.value refl

pub returns-clause-guests : goal.returns-clause-guests
returns-clause-guests c = kept (λ list. list.guest.0) c.args.lists.now.items c.args.to.0 c.index_mut.result.now _ c.index_mut.ensures.value refl

pub returns-clause-asks : goal.returns-clause-asks
returns-clause-asks c = kept (λ list. length list.asks.items) c.args.lists.now.items c.args.to.0 c.index_mut.result.now _ c.index_mut.ensures.value refl

use Rattle.std.proofs.lemmas.Result.{IfOk-weaker}
use Rattle.guest_tests.proofs.ReadyLemmas.{ready}
use Rattle.guest_tests.proofs.booting.booted.Goals as goal

pub returns-clause-ready : goal.returns-clause-ready
returns-clause-ready c =
    IfOk-weaker c.boot.result _ _ (λ b has. ready c.args.machine.now c.args.plan.now c.args.sources b.guests.items b.tokens (record { table = b.table; wires = b.wires; indexes = b.caches.indexes.items }) b.holder c.requires.described (λ g source spec. c.sources_are_their_guests.ensures.each c.args.machine.now.guests c.args.sources g source spec c.requires.sources) has) c.boot.ensures.booted

pub returns-clause-made : goal.returns-clause-made
returns-clause-made c = IfOk-weaker c.boot.result _ _ (λ b has. has.made) c.boot.ensures.booted

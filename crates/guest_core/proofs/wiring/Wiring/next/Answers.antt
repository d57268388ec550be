-- Whoever is left is asked, and then all were.
use Rattle.std.proofs.Common.{rules, ◌≡◌, length, arith}
use Rattle.guest_core.proofs.AskingLemmas.{taken-next}
use Rattle.guest_core.proofs.wiring.Wiring.next.Goals as goal

pub returns-clause-taken : goal.returns-clause-taken
returns-clause-taken g c =
    let old = c.args.self.now.passes in
    let long : c.len-guests.result ≡ length old.takes.items = search rules in
    let least = c.min-start.ensures in
    taken-next old c.ask.new.self.passes c.ask-2.new.self.passes c.min-start.result c.len-guests.result c.ask-2.result long (omega (arith, least))
    c.in_default.ensures.none c.ask-2.ensures.none c.ask-2.ensures.some

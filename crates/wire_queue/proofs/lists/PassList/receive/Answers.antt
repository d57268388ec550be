use Rattle.std.proofs.Common.{◌≡◌, ◌==◌, ◌<◌, if◌then◌else◌, ℕ, Some, None, min, ◌+◌, ◌-◌, ◌^◌, refl, sym, ap, subst, ◌∙◌}
use Rattle.std.proofs.lemmas.List.{get_or-set_same, get_or-set_other, get_or_default}
use Rattle.wire_queue.specs.PassLists.{taking_from, asks_of}
use Rattle.wire_queue.proofs.Callers.{found, of_between, wire_from, some-within, counted}
use Rattle.wire_queue.proofs.lists.PassList.receive.Goals as goal

pub receive-packet-requires : goal.receive-packet-requires
receive-packet-requires g c =
    let there : taking_from c.args.self.now c.args.from.0 ≡ Some c.in-Some.pass = found c.args.self.now.takes.items c.args.from.0 c.index_mut.result.now c.requires.there c.index_mut.ensures.value ∙ c.in-Some.is in
    of_between c.args.wires.now c.args.from.0 c.args.self.now.guest.0 c.in-Some.pass.wire (wire_from c.args.wires.now c.args.self.now c.args.from.0 c.in-Some.pass c.requires.of there)

pub returns-clause-taken : goal.returns-clause-taken
returns-clause-taken g c =
    let old = c.args.self.now in
    let from = c.args.from.0 in
    let there : taking_from old from ≡ Some c.in-Some.pass = found old.takes.items from c.index_mut.result.now c.requires.there c.index_mut.ensures.value ∙ c.in-Some.is in
    let within = some-within old.takes.items from c.requires.there in
    let counts = subst (λ (n : ℕ). from < n) (c.requires.of.takes_all ∙ sym c.requires.of.asks_all) within in
    let count : c.saturating_add.result ≡ min (asks_of old from + 1) (2 ^ 64 - 1) =
    c.saturating_add.ensures ∙ ap (λ (n : ℕ). min (n + 1) (2 ^ 64 - 1)) (c.index.ensures ∙ get_or_default old.asks.items from c.index.result.now 0 counts) in
    record {
      before = c.in-Some.pass;
      after = c.receive-packet.new.pass;
      was = there;
      is = get_or-set_same old.takes.items from (Some c.receive-packet.new.pass) None within;
      taken = c.receive-packet.ensures;
      only = record {
        guest = refl;
        asks = λ other. counted old.asks.items from c.saturating_add.result other counts ∙ ap (λ (n : ℕ). if other == from then n else asks_of old other) count;
        sends = λ other. refl;
        takes = λ other apart. get_or-set_other old.takes.items from other (Some c.receive-packet.new.pass) None apart;
      };
    }

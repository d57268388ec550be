use Rattle.std.proofs.Common.{rules, List, ◌<◌, ◌^◌, ◌∙◌, map, sym, ap, subst, arith}
use Rattle.base_words.specs.declared.ids.CellId.{CellId}
use Rattle.wire_queue.specs.declared.terms.Terms.{Terms}
use Rattle.cow_disk.specs.IndexView.{Index}
use Rattle.machine_desc.specs.Described.{described_seen}
use Rattle.shootdown.specs.Making.{numbered, fresh_token}
use Rattle.guest_boot.specs.Booting.{board_of, AreSeats, AreBooted}
use Rattle.guest_boot.proofs.BootLemmas.{sources-count, seats-board, fresh-seats}
use Rattle.guest_boot.proofs.booting.boot.Goals as goal

pub overflow_cast-count : goal.overflow_cast-count
overflow_cast-count c =
    let same = sources-count c.args.machine.now.guests c.args.sources c.requires.sources in
    let few = c.requires.described.few_guests in
    let len = c.len-count.ensures in
    let small : c.len-count.result < 2 ^ 8 = omega (arith, same, few, len) in
    search rules

pub tokens-requires-clause-seats : goal.tokens-requires-clause-seats
tokens-requires-clause-seats c =
    let same = sources-count c.args.machine.now.guests c.args.sources c.requires.sources in
    let some = c.requires.described.some_guests in
    let len = c.len-count.ensures in
    omega (arith, same, some, len)

pub boot_all-requires-clause-seats : goal.boot_all-requires-clause-seats
boot_all-requires-clause-seats c =
    let same = sources-count c.args.machine.now.guests c.args.sources c.requires.sources in
    let some = c.requires.described.some_guests in
    let len = c.len-count.ensures in
    subst (λ n. AreSeats n c.in_ok-tokens.seats) len (fresh-seats c.len.result c.len-count.result c.in_ok-tokens.tokens c.in_ok-tokens.seats c.in_ok-tokens.ensures (omega (arith, same, some, len)))

pub returns-clause-booted : goal.returns-clause-booted
returns-clause-booted c =
    let d = described_seen c.args.machine.now c.args.plan.now in
    let same = sources-count c.args.machine.now.guests c.args.sources c.requires.sources in
    let some = c.requires.described.some_guests in
    let len = c.len-count.ensures in
    let fresh = c.in_ok-tokens.ensures in
    let board = seats-board c.len.result c.len-count.result c.in_ok-tokens.tokens c.in_ok-tokens.seats fresh (omega (arith, same, some, len)) in
    record {
      cached = c.in_ok-caches.ensures.cached;
      board = board_of c.in_ok-tokens.seats;
      made = c.lots_of.ensures.same ∙ c.in_ok-table.ensures.made;
      nothing = c.in_ok-cache_lots.ensures.rest;
      wires = c.in_ok-wires.ensures.guests ∙ len ∙ sym c.in_ok-guests.ensures.count;
      guests_are = subst (λ (l : List Index). AreBooted d c.args.sources (board_of c.in_ok-tokens.seats) (record { table = c.in_ok-table.table; wires = c.in_ok-wires.wires; indexes = l }) c.in_ok-guests.guests.items) c.deref.ensures.value c.in_ok-guests.ensures;
      tokens_are = fresh.all_tokens ∙ (λ k. numbered (fresh_token (sym board k)) 0 (c.len.ensures k));
    }

pub boot_all-requires-clause-wires : goal.boot_all-requires-clause-wires
boot_all-requires-clause-wires c = record {
  joins = c.in_ok-wires.ensures.joins;
  all = c.in_ok-wires.ensures.guests ∙ c.len-count.ensures ∙ sources-count c.args.machine.now.guests c.args.sources c.requires.sources;
  frames = ap (λ (t : Terms). t.frames) c.in_ok-wires.ensures.terms;
  cells = ap (λ (t : Terms). t.cells) c.in_ok-wires.ensures.terms;
  homes = ap (λ (t : Terms). map (λ (x : CellId). x.0) t.homes) c.in_ok-wires.ensures.terms ∙ c.in_ok-homes.ensures;
}

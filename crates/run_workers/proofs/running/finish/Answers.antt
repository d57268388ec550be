use Rattle.std.proofs.Common.{List, map, sym, subst}
use Rattle.cow_disk.specs.IndexView.{Index}
use Rattle.machine_desc.specs.Described.{described_seen}
use Rattle.guest_boot.specs.Booting.{start_of}
use Rattle.run_workers.specs.Named.{MayRun}
use Rattle.run_workers.proofs.TopLemmas.{may-run, all-starts}
use Rattle.run_workers.proofs.running.finish.Goals as goal

pub run_named-requires-clause-may : goal.run_named-requires-clause-may
run_named-requires-clause-may g c κs within =
    let d = described_seen c.args.machine.now c.args.plan.now in
    let booted = c.in_ok-booted.booted in
    subst (λ (l : List Index). MayRun booted.guests.items booted.tokens (record { table = booted.table; wires = booted.wires; indexes = l }) c.args.plan.now.items) (sym c.deref.ensures.value)
    (may-run d c.args.sources c.in_ok-booted.booted.guests.items c.in_ok-booted.booted.tokens (record { table = c.in_ok-booted.booted.table; wires = c.in_ok-booted.booted.wires; indexes = c.in_ok-booted.booted.caches.indexes.items }) c.in_ok-booted.booted.holder c.requires.described (c.sources_are_their_guests.ensures.count c.args.machine.now.guests c.args.sources c.requires.sources) (λ g source spec. c.sources_are_their_guests.ensures.each c.args.machine.now.guests c.args.sources g source spec c.requires.sources) c.in_ok-booted.ensures.booted)

pub returns-clause-run : goal.returns-clause-run
returns-clause-run g c =
    let d = described_seen c.args.machine.now c.args.plan.now in
    let guests = c.in_ok-booted.booted.guests.items in
    let many = c.sources_are_their_guests.ensures.count c.args.machine.now.guests c.args.sources c.requires.sources in
    let starts = all-starts d c.args.sources guests c.in_ok-booted.booted.tokens (record { table = c.in_ok-booted.booted.table; wires = c.in_ok-booted.booted.wires; indexes = c.in_ok-booted.booted.caches.indexes.items }) c.in_ok-booted.booted.holder c.requires.described many c.in_ok-booted.ensures.booted in
    (map start_of guests, starts, c.in_ok-record.ensures.run)

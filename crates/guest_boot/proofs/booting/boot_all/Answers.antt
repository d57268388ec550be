use Rattle.std.proofs.Common.{rules, ◌≡◌, ◌+◌, ◌++◌, ◌∷◌, [], ◌∙◌, sym, ap, subst, arith, drop, map, length, length-append, append_assoc, Some, List}
use Rattle.std.proofs.lemmas.List.{length-map}
use Rattle.std.specs.Prelude.{slice_get}
use Rattle.std.specs.Vec.Iter.{into_iter_items}
use Rattle.guest_boot.specs.declared.source.Source.{Source}
use Rattle.shootdown.specs.Notes.{Seat}
use Rattle.machine_desc.specs.Described.{described_seen}
use Rattle.guest_core.specs.GuestView.{Monitored, Shared}
use Rattle.guest_boot.specs.Booting.{board_of, left_by_caches, IsStarted, AreBooted}
use Rattle.wire_queue.specs.declared.lists.PassList.{PassList}
use Rattle.boot_frames.specs.declared.lots.Lot.{Lot}
use Rattle.node_frames.specs.Layout.{layout_of}
use Rattle.boot_frames.specs.Needs.{need_of}
use Rattle.guest_boot.proofs.ListLemmas.{map-get}
use Rattle.guest_boot.proofs.LotLemmas.{next-lot, rest-lots, no-more}
use Rattle.guest_boot.proofs.BootLemmas.{next-passes, SeatsFrom, all-seats, booted-none, booted-more, next-source, source-at}
use Rattle.guest_boot.proofs.booting.boot_all.Goals as goal

pub loop-source-init : goal.loop-source-init
loop-source-init c =
    let d = described_seen c.args.machine.now c.args.plan.now in
    let board = board_of c.args.seats in
    let shared : Shared = record { table = c.args.table.now; wires = c.args.wires.now; indexes = c.args.indexes.now } in
    let ends : into_iter_items c.into_iter-passes.result ≡ c.args.passes = c.into_iter-passes.ensures.rest ∙ c.into_vec-2.ensures in
    let lots : into_iter_items c.into_iter-lots.result ≡ c.args.lots.items = c.into_iter-lots.ensures.rest in
    let guests : c.new-guests.result.items ≡ [] = search rules in
    let none : length c.new-guests.result.items ≡ 0 = ap (λ (l : List Monitored). length l) guests in
    let seats : into_iter_items c.into_iter-seats.result ≡ c.args.seats = c.into_iter-seats.ensures.rest ∙ c.into_vec.ensures in
    let count = ap (λ (l : List Seat). length l) seats in
    let all = c.requires.seats.all in
    let sources : into_iter_items c.into_iter-source-iterator.result ≡ c.args.sources = c.into_iter-source-iterator.ensures.into_iter_gives.0 ∙ c.into_vec-source-items.ensures in (
      tt,
      tt,
      subst (λ (l : List Monitored). AreBooted d [] board shared l) (sym guests) (booted-none d board shared),
      subst (λ n. SeatsFrom board n (into_iter_items c.into_iter-seats.result)) (sym none) (subst (λ (l : List Seat). SeatsFrom board 0 l) (sym seats) (all-seats (length c.args.sources) c.args.seats c.requires.seats)),
      omega (arith, none, count, all),
      sources,
      lots ∙ sym (ap (λ n. drop n c.args.lots.items) none),
      ends ∙ sym (ap (λ n. drop n c.args.passes) none),
    )

pub boot_one-requires-clause-there : goal.boot_one-requires-clause-there
boot_one-requires-clause-there c =
    let i = c.loop-source.invariant in
    let next = next-source c.args.machine.now c.args.plan.now c.args.sources c.loop-source.yielded _ _ c.in-Some.source c.requires.described c.requires.sources i.5 c.in-Some.ensures.steps.0 in
    let few = next.few in
    let count = i.2.count in
    let number : c.len-number.result ≡ length c.loop-source.guests.items = search rules in
    omega (arith, few, count, number)

pub boot_one-requires-clause-source : goal.boot_one-requires-clause-source
boot_one-requires-clause-source c = λ spec e.
    let i = c.loop-source.invariant in
    let next = next-source c.args.machine.now c.args.plan.now c.args.sources c.loop-source.yielded _ _ c.in-Some.source c.requires.described c.requires.sources i.5 c.in-Some.ensures.steps.0 in
    let number : c.len-number.result ≡ length c.loop-source.guests.items = search rules in
    let place : length c.loop-source.yielded ≡ c.len-number.result = sym (number ∙ i.2.count) in
    source-at c.args.machine.now.guests c.args.sources c.len-number.result c.in-Some.source spec c.requires.sources (subst (λ n. slice_get c.args.sources n ≡ Some c.in-Some.source) place next.here) e

-- there is a lot for each guest
pub unreachable-requires-in_default-next : goal.unreachable-requires-in_default-next
unreachable-requires-in_default-next c =
    let i = c.loop-source.invariant in
    let machine = c.args.machine.now in
    let left = left_by_caches machine in
    let next = next-source machine c.args.plan.now c.args.sources c.loop-source.yielded _ _ c.in-Some.source c.requires.described c.requires.sources i.5 c.in-Some.ensures.steps.0 in
    let lots = c.each_guest_has_its_lot.ensures.all c.args.table.now (layout_of machine.shape) left (map need_of machine.guests) c.args.lots.items c.requires.lots in
    let needs = length-map machine.guests need_of in
    let few = next.few in
    let count = i.2.count in
    let short : length (into_iter_items c.loop-source.lots) ≡ 0 = sym c.loop-source.lots.rest.ok.0 ∙ c.in_default-next.ensures.cases.0 in
    no-more c.args.lots.items (length c.loop-source.guests.items) (ap (λ (l : List Lot). length l) (sym i.6) ∙ short) (omega (arith, lots, needs, few, count))

-- the lot that comes next is the guest's
pub boot_one-requires-clause-lot : goal.boot_one-requires-clause-lot
boot_one-requires-clause-lot c = λ spec e.
    let i = c.loop-source.invariant in
    let machine = c.args.machine.now in
    let layout = layout_of machine.shape in
    let left = left_by_caches machine in
    let number : c.len-number.result ≡ length c.loop-source.guests.items = search rules in
    let at : slice_get c.args.lots.items c.len-number.result ≡ Some c.in-Some-next-2.lot = next-lot c.args.lots.items _ (length c.loop-source.guests.items) c.in-Some-next-2.lot c.len-number.result number (sym i.6 ∙ c.in-Some-next-2.ensures.cases.0) in
    c.each_guest_has_its_lot.ensures.each c.args.table.now layout left (map need_of machine.guests) c.args.lots.items c.requires.lots c.len-number.result (need_of spec) c.in-Some-next-2.lot (map-get need_of machine.guests c.len-number.result spec e) at

-- no frame is in it twice
pub boot_one-requires-clause-once : goal.boot_one-requires-clause-once
boot_one-requires-clause-once c = λ frame.
    let i = c.loop-source.invariant in
    let number : c.len-number.result ≡ length c.loop-source.guests.items = search rules in
    let at : slice_get c.args.lots.items c.len-number.result ≡ Some c.in-Some-next-2.lot = next-lot c.args.lots.items _ (length c.loop-source.guests.items) c.in-Some-next-2.lot c.len-number.result number (sym i.6 ∙ c.in-Some-next-2.ensures.cases.0) in
    c.no_frame_is_given_twice.ensures.once c.args.lots.items frame (c.requires.once frame) c.len-number.result c.in-Some-next-2.lot at

pub loop-source-preserved : goal.loop-source-preserved
loop-source-preserved c =
    let i = c.loop-source.invariant in
    let d = described_seen c.args.machine.now c.args.plan.now in
    let board = board_of c.args.seats in
    let was = c.loop-source.guests.items in
    let guest = c.in_ok-boot_one.field-0 in
    let seat = c.in-Some-next.seat in
    let left = into_iter_items c.next-in-loop-source.new.self in
    let next = next-source c.args.machine.now c.args.plan.now c.args.sources c.loop-source.yielded _ _ c.in-Some.source c.requires.described c.requires.sources i.5 c.in-Some.ensures.steps.0 in
    let all = i.4 in
    let shared : Shared = record { table = c.args.table.now; wires = c.args.wires.now; indexes = c.args.indexes.now } in
    let taken : into_iter_items c.loop-source.seats ≡ seat ∷ left = c.in-Some-next.ensures.cases.0 in
    let fewer = ap (λ (l : List Seat). length l) taken in
    let seats = subst (λ (l : List Seat). SeatsFrom board (length was) l) taken i.3 in
    let grown : c.push.new.self.items ≡ was ++ guest ∷ [] = search rules in
    let longer : length c.push.new.self.items ≡ length was + 1 = ap (λ (l : List Monitored). length l) grown ∙ length-append was (guest ∷ []) in
    let number : c.len-number.result ≡ length was = search rules in
    let is : IsStarted d c.in-Some.source seat.board shared c.len-number.result guest = c.in_ok-boot_one.ensures in
    let started-is : IsStarted d c.in-Some.source board shared (length was) guest = subst (λ n. IsStarted d c.in-Some.source board shared n guest) number (subst (λ b. IsStarted d c.in-Some.source b shared c.len-number.result guest) seats.0.board_is is) in (
      tt,
      tt,
      subst (λ (l : List Monitored). AreBooted d (c.loop-source.yielded ++ c.in-Some.source ∷ []) board shared l) (sym grown) (booted-more d c.loop-source.yielded board shared was c.in-Some.source guest i.2 started-is),
      subst (λ n. SeatsFrom board n left) (sym longer) seats.1,
      omega (arith, longer, fewer, all),
      append_assoc c.loop-source.yielded (c.in-Some.source ∷ []) _ ∙ ap (λ (l : List Source). c.loop-source.yielded ++ l) (sym c.in-Some.ensures.steps.0) ∙ i.5,
      rest-lots c.args.lots.items _ (length was) c.in-Some-next-2.lot (length c.push.new.self.items) longer (sym i.6 ∙ c.in-Some-next-2.ensures.cases.0),
      rest-lots c.args.passes _ (length was) c.in-Some-next-3.ends (length c.push.new.self.items) longer (sym i.7 ∙ c.in-Some-next-3.ensures.cases.0),
    )

-- there are ends of wires for each guest
pub unreachable-requires-in_default-next-2 : goal.unreachable-requires-in_default-next-2
unreachable-requires-in_default-next-2 c =
    let i = c.loop-source.invariant in
    let machine = c.args.machine.now in
    let next = next-source machine c.args.plan.now c.args.sources c.loop-source.yielded _ _ c.in-Some.source c.requires.described c.requires.sources i.5 c.in-Some.ensures.steps.0 in
    let few = next.few in
    let count = i.2.count in
    let all = c.requires.passes.all.all in
    let wires = c.requires.wires.all in
    let short : length (into_iter_items c.loop-source.passes) ≡ 0 = sym c.loop-source.passes.rest.ok.0 ∙ c.in_default-next-2.ensures.cases.0 in
    no-more c.args.passes (length c.loop-source.guests.items) (ap (λ (l : List PassList). length l) (sym i.7) ∙ short) (omega (arith, all, wires, few, count))

-- the ends that come next are the guest's
pub boot_one-requires-clause-passes : goal.boot_one-requires-clause-passes
boot_one-requires-clause-passes c =
    let i = c.loop-source.invariant in
    let number : c.len-number.result ≡ length c.loop-source.guests.items = search rules in
    let at : slice_get c.args.passes c.len-number.result ≡ Some c.in-Some-next-3.ends = next-lot c.args.passes _ (length c.loop-source.guests.items) c.in-Some-next-3.ends c.len-number.result number (sym i.7 ∙ c.in-Some-next-3.ensures.cases.0) in
    next-passes c.args.wires.now c.args.passes c.len-number.result c.in-Some-next-3.ends c.requires.passes at

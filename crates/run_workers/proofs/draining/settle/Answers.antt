-- Each round the guest takes what comes, and the others are only asked.
use Rattle.std.proofs.Common.{◌∙◌, ap}
use Rattle.guest_core.specs.GuestView.{shared_by}
use Rattle.run_workers.proofs.DrainLemmas.{kept-trans, others-kept, receives-trans, receives-kept, receives-room, receives-packet}
use Rattle.run_workers.proofs.SettledLemmas.{are-of}
use Rattle.run_workers.proofs.draining.settle.Goals as goal

pub packet_in-requires-clause-shared : goal.packet_in-requires-clause-shared
packet_in-requires-clause-shared g c =
    let shared = shared_by c.args.resources.now in
    are-of shared c.loop.guest c.make_room.new.self c.make_room.ensures.same (are-of shared c.args.guest.now c.loop.guest c.loop.invariant.0.same c.requires.shared)

pub has_everything-requires-clause-before : goal.has_everything-requires-clause-before
has_everything-requires-clause-before g c =
    let i = c.loop.invariant in
    others-kept (shared_by c.args.resources.now) c.args.guest.now c.packet_in.new.self c.args.before.now c.loop.before c.requires.before
    (c.packet_in.ensures.sends.guest ∙ ap (λ p. p.guest) c.make_room.ensures.passes ∙ i.0.sends.guest) i.1

pub has_everything-requires-clause-after : goal.has_everything-requires-clause-after
has_everything-requires-clause-after g c =
    let i = c.loop.invariant in
    others-kept (shared_by c.args.resources.now) c.args.guest.now c.packet_in.new.self c.args.after.now c.loop.after c.requires.after
    (c.packet_in.ensures.sends.guest ∙ ap (λ p. p.guest) c.make_room.ensures.passes ∙ i.0.sends.guest) i.2

pub returns-then-has_everything-clause-before : goal.returns-then-has_everything-clause-before
returns-then-has_everything-clause-before g c = kept-trans c.args.before.now c.loop.before c.has_everything.new.before c.loop.invariant.1 c.has_everything.ensures.before

pub returns-then-has_everything-clause-after : goal.returns-then-has_everything-clause-after
returns-then-has_everything-clause-after g c = kept-trans c.args.after.now c.loop.after c.has_everything.new.after c.loop.invariant.2 c.has_everything.ensures.after

pub loop-preserved : goal.loop-preserved
loop-preserved g c =
    let i = c.loop.invariant in
    let e = c.make_room.ensures in
    let room = receives-room c.loop.guest c.make_room.new.self e.same e.stays e.passes in
    let none = c.packet_in.ensures in
    let packet = receives-packet c.make_room.new.self c.packet_in.new.self c.in_ok-packet_in.field-0 none.same none.sends c.in_ok-packet_in.ensures.takes in
    let asked = receives-kept c.packet_in.new.self c.has_everything.new.guest c.has_everything.ensures.guest in (
      receives-trans c.args.guest.now c.loop.guest c.has_everything.new.guest i.0
          (receives-trans c.loop.guest c.make_room.new.self c.has_everything.new.guest room (receives-trans c.make_room.new.self c.packet_in.new.self c.has_everything.new.guest packet asked)),
      kept-trans c.args.before.now c.loop.before c.has_everything.new.before i.1 c.has_everything.ensures.before,
      kept-trans c.args.after.now c.loop.after c.has_everything.new.after i.2 c.has_everything.ensures.after,
    )

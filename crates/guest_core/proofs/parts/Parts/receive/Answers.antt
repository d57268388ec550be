-- The packet in hand is received, and the guest is kept.
use Rattle.std.specs.Vec.{vec_len}
use Rattle.std.proofs.Common.{rules, ◌≡◌, inl, List, [], ◌∷◌, ◌++◌, length, refl, sym, ap, ◌∙◌, subst, arith}
use Rattle.base_words.specs.declared.events.Event.{Event}
use Rattle.base_words.specs.declared.events.Event.TheVariants.{PacketIn}
use Rattle.isolation_law.specs.GuestState.{GuestState}
use Rattle.guest_course.specs.CourseView.{state_of}
use Rattle.guest_core.specs.Kept.{Kept}
use Rattle.guest_core.specs.Wiring.{Posted}
use Rattle.guest_core.proofs.ActLemmas.{acts-received}
use Rattle.guest_core.proofs.OpenCounts.{open-received}
use Rattle.guest_core.proofs.HoldingLemmas.{frames-stay}
use Rattle.guest_core.proofs.KeptProofs.{kept-none, as-many, receive-due}
use Rattle.guest_core.proofs.RoomLemmas.{UsesCall, no-more, room-used, two-entries}
use Rattle.guest_core.proofs.UsingProofs.{uses-row}
use Rattle.guest_core.proofs.WiringProofs.{posted-received}
use Rattle.guest_core.proofs.parts.Parts.receive.Goals as goal

pub returns-clause-kept : goal.returns-clause-kept
returns-clause-kept c =
    let old = c.args.self.now in
    let k = c.requires.kept in
    let s = state_of old.course in
    let t = state_of c.receive.new.self in
    let place = length old.course.received.items in
    let row = c.in_ok-receive.ensures.receives in
    let w = c.laws.ensures.rows in
    let v = c.laws.ensures.takes in
    let kept = kept-none w c.laws.ensures.runs old.start s t old.journal.entries old.seat.notes (PacketIn place) k.kept (inl row) refl in
    let long : vec_len old.course.received ≡ place = search rules in
    let entries = c.push.ensures.entries ∙ ap (λ n. old.journal.entries ++ PacketIn n ∷ []) (c.len-place.ensures ∙ long) in
    let loads = as-many w s t (PacketIn place) (inl row) (λ r. refl) in
    let opens = open-received s t place row in
    let room = two-entries _ _ _ c.requires.room in
    record {
      sound = c.receive.ensures.sound;
      seat = k.seat;
      booted = k.booted;
      kept = subst (λ (j : List Event). Kept old.start t j old.seat.notes) (sym entries) kept;
      goes_on = λ on. c.receive.ensures.goes_on;
      frames = frames-stay s t _ (c.exchanges.ensures.receives s t place row) (w.around s t (PacketIn place) (inl row)) (ap (λ (x : GuestState). x.end) row.after) k.frames;
      used = uses-row w s t (PacketIn place) old.uses (inl row) (c.uses_change.ensures.receives s t place row) (λ r. refl) k.used;
      at_home = k.at_home;
      owed = omega (arith, loads, opens, room, c.push.ensures.room);
      few_guests = k.few_guests;
      wired = k.wired;
      posted = subst (λ (j : List Event). Posted t j old.wiring.passes) (sym entries) (posted-received v s t old.journal.entries place old.wiring.passes k.posted row);
    }

pub returns-clause-leaves : goal.returns-clause-leaves
returns-clause-leaves c =
    let old = c.args.self.now in
    let s = state_of old.course in
    let t = state_of c.receive.new.self in
    let e = c.in_ok-receive.ensures in
    let place = length old.course.received.items in
    let uses : UsesCall old.course c.receive.new.self = record {
      print_room = omega (arith, e.print_room);
      send_room = omega (arith, e.send_room);
      cells = no-more _ _ e.cells;
      received = e.place_room;
      discarded = no-more _ _ e.discarded;
      begins = omega (arith, e.room);
      skips = no-more _ _ e.skips;
    } in
    record {
      notes = refl;
      passes = refl;
      acts = acts-received s t place e.receives;
      same = record { number = refl; start = refl; disk = refl; board = refl; table = refl; wires = refl; own = refl };
      room = room-used _ _ old.course c.receive.new.self uses (omega (arith, receive-due c.laws.ensures.rows c.laws.ensures.moves s t place e.receives, c.push.ensures.room));
    }

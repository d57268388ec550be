-- The move begins that the page needs before the packet in hand comes into it, and the guest is kept.
use Rattle.std.proofs.Common.{◌≡◌, List, [], ◌∷◌, ◌++◌, refl, sym, ap, ◌∙◌, subst, arith}
use Rattle.base_words.specs.declared.events.Event.{Event}
use Rattle.base_words.specs.declared.events.Event.TheVariants.{Begin}
use Rattle.base_words.specs.declared.ids.NodeId.{NodeId}
use Rattle.base_words.specs.declared.moves.By.TheVariants.{Packet}
use Rattle.isolation_law.specs.GuestState.{GuestState}
use Rattle.isolation_law.specs.Surroundings.{Surroundings}
use Rattle.guest_course.specs.CourseView.{state_of}
use Rattle.guest_core.specs.Wiring.{Posted}
use Rattle.guest_core.proofs.ActLemmas.{acts-opened}
use Rattle.guest_core.proofs.AskLemmas.{kept-packet, quiet-begin}
use Rattle.guest_core.proofs.GainLemmas.{inside-need, changed-inside, exchanged-inside}
use Rattle.guest_core.proofs.OpenCounts.{open-more}
use Rattle.guest_core.proofs.EnterProofs.{of-these}
use Rattle.guest_core.proofs.HoldingLemmas.{frames-stay}
use Rattle.guest_core.proofs.KeptProofs.{as-many, begin-due}
use Rattle.guest_core.proofs.RoomLemmas.{UsesCall, no-more, room-used, two-entries}
use Rattle.guest_core.proofs.UsingProofs.{uses-row}
use Rattle.guest_core.proofs.WiringProofs.{posted-same, quiet-one}
use Rattle.guest_core.proofs.parts.Parts.begin_for_packet.Goals as goal

pub returns-clause-kept : goal.returns-clause-kept
returns-clause-kept c =
    let old = c.args.self.now in
    let s = state_of old.course in
    let t = state_of c.begin_for_packet.new.self in
    let k = c.requires.kept in
    let q = c.args.page in
    let kind = c.args.kind in
    let home : NodeId = record { 0 = s.around.home } in
    let entry : Event = Begin q kind home Packet in
    let e = c.begin_for_packet.ensures in
    let row = e.begins in
    let w = c.laws.ensures.rows in
    let kept = kept-packet w c.laws.ensures.runs old.start s t old.journal.entries old.seat.notes q kind home k.kept row in
    let around = w.around s t entry row in
    let exchanged = exchanged-inside s t q.0 kind s.around.home Packet row (inside-need s q.0 kind c.requires.needs.needs) (c.exchanges.ensures.begins s t q.0 kind s.around.home Packet row) in
    let change = changed-inside s t q.0 kind s.around.home Packet row (inside-need s q.0 kind c.requires.needs.needs) (c.uses_change.ensures.begins s t q.0 kind s.around.home Packet row) in
    let loads = as-many w s t entry row (λ r. refl) in
    let opens = open-more s t q.0 kind s.around.home Packet row in
    let room = two-entries _ _ _ c.requires.room in
    let begins : c.begin_entry.result ≡ entry = c.begin_entry.ensures ∙ ap (λ (x : Surroundings). Begin q kind (record { 0 = x.home }) Packet) around in
    let journal = c.push.ensures.entries ∙ ap (λ (x : Event). old.journal.entries ++ x ∷ []) begins in
    record {
      sound = e.sound;
      seat = k.seat;
      booted = k.booted;
      kept = of-these old.start t _ _ _ _ journal refl kept;
      goes_on = λ on. e.goes_on;
      frames = frames-stay s t _ exchanged around (ap (λ (x : GuestState). x.end) row.after) k.frames;
      used = uses-row w s t entry old.uses row change (λ r. refl) k.used;
      at_home = k.at_home;
      owed = omega (arith, loads, opens, room, c.push.ensures.room);
      few_guests = k.few_guests;
      wired = k.wired;
      posted = subst (λ (j : List Event). Posted t j old.wiring.passes) (sym journal) (posted-same c.laws.ensures.takes s t old.journal.entries (entry ∷ []) old.wiring.passes k.posted (quiet-begin s t q.0 kind s.around.home Packet row)
          (ap (λ (x : GuestState). x.devices.sent) row.after) (ap (λ (x : GuestState). x.sent_from) row.after) around (quiet-one s entry refl (λ x. tt)));
    }

pub returns-clause-leaves : goal.returns-clause-leaves
returns-clause-leaves c =
    let old = c.args.self.now in
    let s = state_of old.course in
    let t = state_of c.begin_for_packet.new.self in
    let e = c.begin_for_packet.ensures in
    let uses : UsesCall old.course c.begin_for_packet.new.self = record {
      print_room = omega (arith, e.print_room);
      send_room = omega (arith, e.send_room);
      cells = no-more _ _ e.cells;
      received = no-more _ _ e.packets.received;
      discarded = no-more _ _ e.packets.discarded;
      begins = e.room;
      skips = no-more _ _ e.skips;
    } in
    record {
      notes = refl;
      passes = refl;
      acts = acts-opened s t c.args.page.0 c.args.kind s.around.home Packet e.begins;
      same = record { number = refl; start = refl; disk = refl; board = refl; table = refl; wires = refl; own = refl };
      room = room-used _ _ old.course c.begin_for_packet.new.self uses (omega (arith, begin-due c.laws.ensures.rows c.laws.ensures.moves s t c.args.page c.args.kind (record { 0 = s.around.home }) Packet e.begins, c.push.ensures.room));
    }

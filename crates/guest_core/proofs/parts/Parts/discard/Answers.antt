-- The packet in hand is thrown away, and the guest is kept.
use Rattle.std.specs.Vec.{vec_len}
use Rattle.std.proofs.Common.{rules, ◌≡◌, List, [], ◌∷◌, ◌++◌, length, refl, sym, ap, ◌∙◌, subst, arith, ℕ}
use Rattle.std.proofs.lemmas.Option.{same_Some}
use Rattle.base_words.specs.declared.events.Event.{Event}
use Rattle.base_words.specs.declared.events.Event.TheVariants.{Discard}
use Rattle.private_machine.specs.Operation.{Packet}
use Rattle.isolation_law.specs.GuestState.{GuestState}
use Rattle.isolation_law.specs.Phases.{MayAct}
use Rattle.guest_course.specs.CourseView.{state_of, got_of}
use Rattle.guest_core.specs.Kept.{Kept}
use Rattle.guest_core.specs.Wiring.{Posted}
use Rattle.guest_core.proofs.EnterProofs.{one-row}
use Rattle.guest_core.proofs.HoldingLemmas.{frames-stay}
use Rattle.guest_core.proofs.KeptProofs.{kept-none, discard-due}
use Rattle.guest_core.proofs.RoomLemmas.{UsesCall, room-used, two-entries, no-more}
use Rattle.guest_core.proofs.UsingProofs.{uses-row}
use Rattle.guest_core.proofs.WiringProofs.{posted-discarded}
use Rattle.guest_core.proofs.OpenCounts.{no-less}
use Rattle.guest_course.specs.declared.course.Course.{Course}
use Rattle.std.proofs.lemmas.List.{length-map}
use Rattle.isolation_law.specs.Run.{Run}
use Rattle.guest_core.proofs.parts.Parts.discard.Goals as goal

pub returns-clause-kept : goal.returns-clause-kept
returns-clause-kept c =
    let old = c.args.self.now in
    let k = c.requires.kept in
    let s = state_of old.course in
    let t = state_of c.discard.new.self in
    let place = length old.course.discarded.items in
    let row = c.in_ok-discard.ensures.discards in
    let w = c.laws.ensures.rows in
    let kept = kept-none w c.laws.ensures.runs old.start s t old.journal.entries old.seat.notes (Discard place) k.kept row refl in
    let long : vec_len old.course.discarded ≡ place = search rules in
    let entries = c.push.ensures.entries ∙ ap (λ n. old.journal.entries ++ Discard n ∷ []) (c.len-place.ensures ∙ long) in
    let due = discard-due w c.laws.ensures.moves s t place row in
    let room = two-entries _ _ _ c.requires.room in
    record {
      sound = c.discard.ensures.sound;
      seat = k.seat;
      booted = k.booted;
      kept = subst (λ (j : List Event). Kept old.start t j old.seat.notes) (sym entries) kept;
      goes_on = λ on. c.discard.ensures.goes_on;
      frames = frames-stay s t _ (c.exchanges.ensures.discards s t place row) (w.around s t (Discard place) row) (ap (λ (x : GuestState). x.end) row.after) k.frames;
      used = uses-row w s t (Discard place) old.uses row (c.uses_change.ensures.discards s t place row) (λ r. refl) k.used;
      at_home = k.at_home;
      owed = omega (arith, due, room, k.owed, c.push.ensures.room);
      few_guests = k.few_guests;
      wired = k.wired;
      posted = subst (λ (j : List Event). Posted t j old.wiring.passes) (sym entries) (posted-discarded c.laws.ensures.takes s t old.journal.entries place old.wiring.passes k.posted row);
    }

pub returns-clause-discarded : goal.returns-clause-discarded
returns-clause-discarded c lost =
    let old = c.args.self.now in
    let s = state_of old.course in
    let t = state_of c.discard.new.self in
    let place = length old.course.discarded.items in
    let row = c.in_ok-discard.ensures.discards in
    let long : vec_len old.course.discarded ≡ place = search rules in
    let mapped : length s.discarded ≡ place = length-map old.course.discarded.items got_of in
    record {
      armed = c.requires.armed;
      notes = refl;
      view = refl;
      packet = row.packet;
      of_cell = ap (λ (x : Packet). x.cell) (same_Some row.packet lost.packet (sym row.in_hand ∙ lost.in_hand));
      dead = lost.lost;
      thrown = ap (λ (x : GuestState). x.discarded) row.after;
      makes = record {
        journal = c.push.ensures.entries ∙ ap (λ n. old.journal.entries ++ Discard n ∷ []) (c.len-place.ensures ∙ long ∙ sym mapped);
        run = subst (λ (n : ℕ). Run s (Discard n ∷ []) t) (sym mapped) (one-row s t (Discard place) row);
      };
      not_ended = c.discard.ensures.goes_on.not_ended;
      free = ap (λ (x : GuestState). x.hand) row.after;
    }

pub returns-clause-leaves : goal.returns-clause-leaves
returns-clause-leaves c =
    let old = c.args.self.now in
    let s = state_of old.course in
    let t = state_of c.discard.new.self in
    let e = c.in_ok-discard.ensures in
    let place = length old.course.discarded.items in
    let same = e.same in
    let uses : UsesCall old.course c.discard.new.self = record {
      print_room = no-less _ _ (ap (λ (x : Course). x.devs.print_room) same);
      send_room = no-less _ _ (ap (λ (x : Course). x.devs.send_room) same);
      cells = no-more _ _ (ap (λ (x : Course). x.sent_from) same);
      received = no-more _ _ (ap (λ (x : Course). x.received) same);
      discarded = e.place_room;
      begins = no-less _ _ (ap (λ (x : Course). x.pmap.room) same);
      skips = no-more _ _ (ap (λ (x : Course). x.skips) same);
    } in
    record {
      notes = refl;
      passes = refl;
      acts = λ p may. subst (λ (x : GuestState). MayAct x p) (sym e.discards.after) may;
      same = record { number = refl; start = refl; disk = refl; board = refl; table = refl; wires = refl; own = refl };
      room = room-used _ _ old.course c.discard.new.self uses (omega (arith, discard-due c.laws.ensures.rows c.laws.ensures.moves s t place e.discards, c.push.ensures.room));
    }

-- The unload is its row, and the guest is kept.
use Rattle.std.proofs.Common.{rules, ℕ, ◌<◌, List, [], ◌∷◌, ◌++◌, length, refl, sym, ap, ◌∙◌, subst, arith}
use Rattle.base_words.specs.declared.events.Event.{Event}
use Rattle.base_words.specs.declared.events.Event.TheVariants.{Unload}
use Rattle.shootdown.specs.declared.notes.Note.TheVariants.{Made}
use Rattle.shootdown.specs.declared.view.SidedNote.{SidedNote}
use Rattle.shootdown.specs.Notes.{Seat, sided}
use Rattle.isolation_law.specs.GuestState.{GuestState}
use Rattle.guest_course.specs.CourseView.{state_of}
use Rattle.guest_core.specs.Kept.{Kept}
use Rattle.guest_core.proofs.EnterProofs.{handed-same}
use Rattle.guest_core.proofs.HoldingLemmas.{frames-stay}
use Rattle.guest_core.proofs.KeptProofs.{kept-one, unload-due}
use Rattle.guest_core.proofs.RoomLemmas.{KeepsCalls, room-kept}
use Rattle.guest_core.specs.Wiring.{Posted}
use Rattle.guest_core.proofs.WiringProofs.{posted-same, quiet-one, quiet-unload}
use Rattle.guest_core.proofs.parts.Parts.unload.Goals as goal

pub push-requires : goal.push-requires
push-requires c =
    let k = c.requires.kept in
    let p = c.number-processor.result in
    let due = unload-due c.laws.ensures.rows c.laws.ensures.moves (state_of c.args.self.now.course) (state_of c.unload.new.self) p c.unload.ensures.unloads (subst (λ (n : ℕ). p.0 < n) (sym k.kept.processors) (rw c.number-processor.ensures c.requires.may.notes.is_processor)) in
    omega (arith, due, k.owed)

pub returns-clause-kept : goal.returns-clause-kept
returns-clause-kept c =
    let old = c.args.self.now in
    let s = state_of old.course in
    let t = state_of c.unload.new.self in
    let k = c.requires.kept in
    let p = c.number-processor.result in
    let n : SidedNote = sided p.0 (Made (Unload p)) in
    let w = c.laws.ensures.rows in
    let row = c.unload.ensures.unloads in
    let v' = c.laws.ensures.takes in
    let there : p.0 < length s.processors = subst (λ (n : ℕ). p.0 < n) (sym k.kept.processors) (rw c.number-processor.ensures c.requires.may.notes.is_processor) in
    let kept = kept-one w c.laws.ensures.runs old.start s t old.journal.entries old.seat.notes (Unload p) n k.kept c.unload.ensures.unloads refl there in
    let due = unload-due w c.laws.ensures.moves s t p row there in
    record {
      sound = c.unload.ensures.sound;
      seat = ap (λ (x : Seat). x.number) c.note.ensures.seat ∙ k.seat;
      booted = k.booted;
      kept = subst (λ (j : List Event). Kept old.start t j c.note.new.seat.notes) (sym c.push.ensures.entries) (subst (λ (l : List SidedNote). Kept old.start t (old.journal.entries ++ Unload p ∷ []) l) (sym (ap (λ (x : Seat). x.notes) c.note.ensures.seat ∙ ap (λ (side : ℕ). old.seat.notes ++ sided side (Made (Unload p)) ∷ []) (sym c.number-processor.ensures))) kept);
      goes_on = λ on. c.unload.ensures.goes_on (k.goes_on (sym (ap (λ (x : GuestState). x.end) c.unload.ensures.unloads.after) ∙ on));
      frames = frames-stay s t _ (c.exchanges.ensures.unloads s t p.0 c.unload.ensures.unloads) (w.around s t (Unload p) c.unload.ensures.unloads) (ap (λ (x : GuestState). x.end) c.unload.ensures.unloads.after) k.frames;
      used = c.count_unload.ensures t row;
      at_home = k.at_home;
      owed = omega (arith, due, k.owed, c.push.ensures.room);
      few_guests = k.few_guests;
      wired = k.wired;
      posted = subst (λ (j : List Event). Posted t j old.wiring.passes) (sym c.push.ensures.entries) (posted-same v' s t old.journal.entries (Unload p ∷ []) old.wiring.passes k.posted (quiet-unload s t p.0 row)
          (ap (λ (x : GuestState). x.devices.sent) row.after) (ap (λ (x : GuestState). x.sent_from) row.after) (w.around s t (Unload p) row) (quiet-one s (Unload p) refl (λ x. tt)));
    }

pub returns-clause-room : goal.returns-clause-room
returns-clause-room c =
    let before = c.args.self.now.course in
    let after = c.unload.new.self in
    let done = c.unload.ensures in
    let k = c.requires.kept in
    let p = c.number-processor.result in
    let due = unload-due c.laws.ensures.rows c.laws.ensures.moves (state_of before) (state_of after) p done.unloads (subst (λ (n : ℕ). p.0 < n) (sym k.kept.processors) (rw c.number-processor.ensures c.requires.may.notes.is_processor)) in
    let keeps : KeepsCalls before after = record { print_room = done.print_room; send_room = done.send_room; cells = done.cells; received = done.packets.received; discarded = done.packets.discarded; begins = omega (arith, done.room); skips = done.skips } in
    room-kept _ _ before after keeps (omega (arith, due, c.push.ensures.room))

pub returns-clause-leaves : goal.returns-clause-leaves
returns-clause-leaves c =
    let room = returns-clause-room c in
    record {
      learns = record { seat = search rules; token_is = search rules };
      same = record { number = refl; start = refl; disk = refl; board = ap (λ (x : Seat). x.board) c.note.ensures.seat; table = refl; wires = refl; own = refl };
      handed = handed-same c.args.self.now.course c.unload.new.self c.unload.ensures.packets.hand;
      room = omega (arith, room);
    }

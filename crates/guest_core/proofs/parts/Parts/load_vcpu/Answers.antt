-- The load is its row, and the guest is kept.
use Rattle.std.proofs.Common.{rules, ℕ, ◌<◌, Some, List, [], ◌∷◌, ◌++◌, refl, sym, ap, ◌∙◌, subst, arith}
use Rattle.base_words.specs.declared.events.Event.{Event}
use Rattle.base_words.specs.declared.events.Event.TheVariants.{Load}
use Rattle.shootdown.specs.declared.notes.Note.TheVariants.{Made, Ended, Dead}
use Rattle.shootdown.specs.declared.view.SidedNote.{SidedNote}
use Rattle.shootdown.specs.Notes.{Seat, sided}
use Rattle.isolation_law.specs.GuestState.{GuestState}
use Rattle.guest_course.specs.CourseView.{state_of}
use Rattle.guest_core.specs.Kept.{Kept}
use Rattle.guest_core.proofs.HoldingLemmas.{frames-stay}
use Rattle.guest_core.proofs.KeptProofs.{kept-one, kept-answer, load-due}
use Rattle.guest_core.proofs.EnterProofs.{handed-same, noted-kept}
use Rattle.guest_core.proofs.RoomLemmas.{two-entries, KeepsCalls, as-used, room-used}
use Rattle.guest_core.specs.Wiring.{Posted}
use Rattle.guest_core.proofs.WiringProofs.{posted-same, quiet-one, quiet-load}
use Rattle.guest_core.proofs.FailLemmas.{on-outlives}
use Rattle.isolation_law.specs.Phases.{GoesOn}
use Rattle.guest_core.proofs.parts.Parts.load_vcpu.Goals as goal

pub returns-in-Some-clause-kept : goal.returns-in-Some-clause-kept
returns-in-Some-clause-kept c =
    let old = c.args.self.now in
    let s = state_of old.course in
    let k = c.requires.kept in
    let is = c.in-Some.is in
    let n : SidedNote = sided c.args.token.now.number (Ended c.in-Some.end) in
    let kept = kept-answer c.laws.ensures.runs old.start s old.journal.entries old.seat.notes n k.kept (subst (λ (n : ℕ). c.args.token.now.number < n) (sym k.kept.processors) c.requires.may.notes.is_processor) tt (is, λ same. c.requires.may.before (is ∙ ap Some same)) in
    noted-kept old c.note.new.seat n k c.note.ensures.seat kept

pub returns-then-is_dead-clause-kept : goal.returns-then-is_dead-clause-kept
returns-then-is_dead-clause-kept c =
    let old = c.args.self.now in
    let s = state_of old.course in
    let k = c.requires.kept in
    let cell = c.cell_of-cell.result in
    let n : SidedNote = sided c.args.token.now.number (Dead cell) in
    let on : GoesOn s = k.goes_on c.in_default.is in
    let kept = kept-answer c.laws.ensures.runs old.start s old.journal.entries old.seat.notes n k.kept (subst (λ (n : ℕ). c.args.token.now.number < n) (sym k.kept.processors) c.requires.may.notes.is_processor) tt (on-outlives s cell.0 on (sym c.is_dead.ensures ∙ c.if-is_dead.true)) in
    noted-kept old c.note-then-is_dead.new.seat n k c.note-then-is_dead.ensures.seat kept

pub returns-clause-kept : goal.returns-clause-kept
returns-clause-kept c =
    let old = c.args.self.now in
    let s = state_of old.course in
    let t = state_of c.load.new.self in
    let k = c.requires.kept in
    let p = c.number-processor.result in
    let v = c.args.vcpu in
    let n : SidedNote = sided p.0 (Made (Load p v)) in
    let w = c.laws.ensures.rows in
    let row = c.load.ensures.loads in
    let v' = c.laws.ensures.takes in
    let kept = kept-one w c.laws.ensures.runs old.start s t old.journal.entries old.seat.notes (Load p v) n k.kept row refl row.is_processor in
    let due = load-due w c.laws.ensures.moves s t p v row in
    let room = two-entries _ _ _ c.requires.room in
    record {
      sound = c.load.ensures.sound;
      seat = ap (λ (x : Seat). x.number) c.note-2.ensures.seat ∙ k.seat;
      booted = k.booted;
      kept = subst (λ (j : List Event). Kept old.start t j c.note-2.new.seat.notes) (sym c.push.ensures.entries)
          (subst (λ (l : List SidedNote). Kept old.start t (old.journal.entries ++ Load p v ∷ []) l) (sym (ap (λ (x : Seat). x.notes) c.note-2.ensures.seat ∙ ap (λ (side : ℕ). old.seat.notes ++ sided side (Made (Load p v)) ∷ []) (sym c.number-processor.ensures))) kept);
      goes_on = λ on. c.load.ensures.goes_on;
      frames = frames-stay s t _ (c.exchanges.ensures.loads s t p.0 v.0 row) (w.around s t (Load p v) row) (ap (λ (x : GuestState). x.end) row.after) k.frames;
      used = c.count_load.ensures v.0 t row;
      at_home = k.at_home;
      owed = omega (arith, due, room, c.push.ensures.room);
      few_guests = k.few_guests;
      wired = k.wired;
      posted = subst (λ (j : List Event). Posted t j old.wiring.passes) (sym c.push.ensures.entries) (posted-same v' s t old.journal.entries (Load p v ∷ []) old.wiring.passes k.posted (quiet-load s t p.0 v.0 row)
          (ap (λ (x : GuestState). x.devices.sent) row.after) (ap (λ (x : GuestState). x.sent_from) row.after) (w.around s t (Load p v) row) (quiet-one s (Load p v) refl (λ x. tt)));
    }

pub returns-clause-leaves : goal.returns-clause-leaves
returns-clause-leaves c =
    let before = c.args.self.now.course in
    let after = c.load.new.self in
    let p = c.number-processor.result in
    let done = c.load.ensures in
    let due = load-due c.laws.ensures.rows c.laws.ensures.moves (state_of before) (state_of after) p c.args.vcpu done.loads in
    let keeps : KeepsCalls before after = record { print_room = done.print_room; send_room = done.send_room; cells = done.cells; received = done.packets.received; discarded = done.packets.discarded; begins = omega (arith, done.room); skips = done.skips } in
    record {
      learns = record { seat = search rules; token_is = search rules };
      same = record { number = refl; start = refl; disk = refl; board = ap (λ (x : Seat). x.board) c.note-2.ensures.seat; table = refl; wires = refl; own = refl };
      handed = handed-same before after done.packets.hand;
      room = room-used _ _ before after (as-used before after keeps) (omega (arith, due, c.push.ensures.room));
    }

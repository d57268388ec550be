-- The cell fails and the guest ends by it, and is kept.
use Rattle.std.proofs.Common.{◌≡◌, ◌<◌, ◌≢◌, ℕ, List, [], ◌∷◌, ◌++◌, None, Some, false, length, refl, sym, ap, ◌∙◌, subst, arith, append_assoc}
use Rattle.base_words.specs.declared.ids.CellId.{CellId}
use Rattle.base_words.specs.declared.events.End.{End}
use Rattle.base_words.specs.declared.events.End.TheVariants.{Budget, CellFailed}
use Rattle.base_words.specs.declared.events.Event.{Event}
use Rattle.base_words.specs.declared.events.Event.TheVariants.{CellFails, End as Ending}
use Rattle.shootdown.specs.declared.notes.Note.TheVariants.{Made, Ended}
use Rattle.shootdown.specs.Notes.{Seat, sided}
use Rattle.isolation_law.specs.GuestState.{GuestState, is_dead}
use Rattle.guest_course.specs.CourseView.{state_of}
use Rattle.guest_course.specs.EndCalls.{letting_go}
use Rattle.guest_course.specs.FailCalls.{EndsBy, FailsSo}
use Rattle.guest_course.specs.declared.course.Course.{Course}
use Rattle.guest_core.specs.GuestView.{entries_due, calls_room}
use Rattle.guest_core.specs.Holding.{HasFrames}
use Rattle.guest_core.specs.Using.{AreUses}
use Rattle.guest_core.specs.Wiring.{Posted}
use Rattle.guest_core.proofs.EnterProofs.{handed-same, of-these}
use Rattle.guest_core.proofs.FailLemmas.{failed-so, frames-marked, kept-failed, lingering, quiet-ended, quiet-failing, uses-marked, two-notes}
use Rattle.guest_core.proofs.KeptProofs.{kept-answer}
use Rattle.guest_core.proofs.LettingLemmas.{letting-open}
use Rattle.guest_core.proofs.RoomLemmas.{two-entries, KeepsCalls, as-used, room-used}
use Rattle.guest_core.proofs.WiringProofs.{posted-same}
use Rattle.guest_core.proofs.parts.Parts.end_by_cell.Goals as goal

pub close-requires-clause-room : goal.close-requires-clause-room
close-requires-clause-room c =
    let old = c.args.self.now in
    let s = state_of old.course in
    let room = two-entries old.journal.room (entries_due s) (calls_room old.course) c.requires.room in
    omega (arith, room, letting-open 0 s.pages, c.push.ensures.room)

pub returns-clause-kept : goal.returns-clause-kept
returns-clause-kept c =
    let old = c.args.self.now in
    let s = state_of old.course in
    let u = state_of c.close.new.course in
    let t = state_of c.fail.new.self in
    let k = c.requires.kept in
    let cell = c.args.cell in
    let side = c.args.token.now.number in
    let e = c.close.ensures in
    let marks = c.fail.ensures.marks in
    let w = c.laws.ensures.rows in
    let entries = CellFails cell ∷ (letting_go 0 s.pages ++ Ending (CellFailed cell) ∷ []) in
    let marked : t ≡ record u { dead = t.dead } = ap state_of marks.same in
    let is = failed-so s u t cell t.dead e.state marked marks.cells in
    let ends : EndsBy s cell.0 = record { goes_on = k.goes_on c.requires.not_ended; is_cell = subst (λ (n : ℕ). cell.0 < n) (sym k.sound.sized.dead) c.requires.cell; lives = c.requires.lives; used = c.requires.used } in
    let run : FailsSo s cell.0 t = c.used_cells_end.ensures s t cell.0 ends is in
    let there : side < length s.processors = subst (λ (n : ℕ). side < n) (sym k.kept.processors) c.requires.may.notes.is_processor in
    let one = kept-failed c.run_grows.ensures.hand w c.laws.ensures.runs old.start s t old.journal.entries s.pages cell side old.seat.notes k.kept there run in
    let now : t.end ≡ Some (CellFailed cell) = ap (λ (x : GuestState). x.end) is in
    let two = kept-answer c.laws.ensures.runs old.start t (old.journal.entries ++ entries) (old.seat.notes ++ sided side (Made (CellFails cell)) ∷ []) (sided side (Ended (CellFailed cell))) one
    (subst (λ (n : ℕ). side < n) (sym (ap (λ (x : GuestState). length x.processors) is)) there) tt (now, not-budget cell) in
    let journal : c.close.new.journal.entries ≡ old.journal.entries ++ entries = e.entries ∙ ap (λ (l : List Event). l ++ (letting_go 0 s.pages ++ Ending (CellFailed cell) ∷ [])) c.push.ensures.entries ∙ append_assoc old.journal.entries (CellFails cell ∷ []) (letting_go 0 s.pages ++ Ending (CellFailed cell) ∷ []) in
    let still : is_dead u cell.0 ≡ false = ap (λ (x : GuestState). is_dead x cell.0) e.state ∙ c.requires.lives in
    let room = two-entries old.journal.room (entries_due s) (calls_room old.course) c.requires.room in
    let told = two-notes c.args.token.now c.note.new.token c.note-2.new.token old.seat c.note.new.seat c.note-2.new.seat old.number.0 (Made (CellFails cell)) (Ended (CellFailed cell)) k.seat c.note.ensures.token c.note.ensures.seat c.note-2.ensures.token c.note-2.ensures.seat in
    record {
      sound = c.fail.ensures.sound (lingering u cell.0 (CellFailed cell) e.ended (not-budget cell) still);
      seat = ap (λ (x : Seat). x.number) told.heard ∙ k.seat;
      booted = k.booted;
      kept = of-these old.start t _ _ _ _ journal (ap (λ (x : Seat). x.notes) told.heard) two;
      goes_on = λ on. absurd (no (CellFailed cell) (sym now ∙ on));
      frames = subst (λ (x : GuestState). HasFrames x c.close.new.holder.view) (sym marked) (frames-marked u t.dead c.close.new.holder.view e.frames);
      used = subst (λ (x : GuestState). AreUses x c.close.new.uses) (sym marked) (uses-marked u t.dead c.close.new.uses e.used);
      at_home = k.at_home;
      owed = omega (arith, ap entries_due marked, e.due, room, letting-open 0 s.pages, e.room, c.push.ensures.room);
      few_guests = k.few_guests;
      wired = k.wired;
      posted = subst (λ (j : List Event). Posted t j old.wiring.passes) (sym journal)
          (posted-same c.laws.ensures.takes s t old.journal.entries entries old.wiring.passes k.posted (quiet-ended s t cell is) (ap (λ (x : GuestState). x.devices.sent) is) (ap (λ (x : GuestState). x.sent_from) is) (ap (λ (x : GuestState). x.around) is) (quiet-failing s s.pages cell));
    }
  where
    no : (e : End) → Some e ≡ None → ⊥
    no e is = cc

    not-budget : (d : CellId) → CellFailed d ≢ Budget
    not-budget d e = cc

pub returns-clause-fails : goal.returns-clause-fails
returns-clause-fails c =
    let old = c.args.self.now in
    let s = state_of old.course in
    let u = state_of c.close.new.course in
    let t = state_of c.fail.new.self in
    let cell = c.args.cell in
    let e = c.close.ensures in
    let marks = c.fail.ensures.marks in
    let closing = letting_go 0 s.pages ++ Ending (CellFailed cell) ∷ [] in
    let is = failed-so s u t cell t.dead e.state (ap state_of marks.same) marks.cells in
    let k = c.requires.kept in
    let ends : EndsBy s cell.0 = record { goes_on = k.goes_on c.requires.not_ended; is_cell = subst (λ (n : ℕ). cell.0 < n) (sym k.sound.sized.dead) c.requires.cell; lives = c.requires.lives; used = c.requires.used } in
    record {
      not_ended = c.requires.not_ended;
      lives = c.requires.lives;
      used = c.requires.used;
      makes = record {
        makes = record {
          journal = e.entries ∙ ap (λ (l : List Event). l ++ closing) c.push.ensures.entries ∙ append_assoc old.journal.entries (CellFails cell ∷ []) closing;
          run = c.used_cells_end.ensures s t cell.0 ends is;
        };
        passes = refl;
      };
      ended = ap (λ (x : GuestState). x.end) is;
    }

pub returns-clause-leaves : goal.returns-clause-leaves
returns-clause-leaves c =
    let old = c.args.self.now in
    let s = state_of old.course in
    let e = c.close.ensures in
    let same = c.fail.ensures.marks.same in
    let devs = ap (λ (x : Course). x.devs) same ∙ e.devs in
    let keeps : KeepsCalls old.course c.fail.new.self = record {
      print_room = ap (λ d. d.print_room) devs;
      send_room = ap (λ d. d.send_room) devs;
      cells = ap (λ (x : Course). x.sent_from) same ∙ e.cells;
      received = ap (λ (x : Course). x.received) same ∙ e.packets.received;
      discarded = ap (λ (x : Course). x.discarded) same ∙ e.packets.discarded;
      begins = omega (arith, ap (λ (x : Course). x.pmap.room) same, e.begins);
      skips = ap (λ (x : Course). x.skips) same ∙ e.skips;
    } in
    let told = two-notes c.args.token.now c.note.new.token c.note-2.new.token old.seat c.note.new.seat c.note-2.new.seat old.number.0 (Made (CellFails c.args.cell)) (Ended (CellFailed c.args.cell)) c.requires.kept.seat c.note.ensures.token c.note.ensures.seat c.note-2.ensures.token c.note-2.ensures.seat in
    record {
      learns = record { seat = told.notes; token_is = told.told };
      same = record { number = refl; start = refl; disk = refl; board = told.board; table = e.same; wires = refl; own = refl };
      handed = handed-same old.course c.fail.new.self (ap (λ (x : Course). x.hand) same ∙ e.packets.hand);
      room = room-used _ _ old.course c.fail.new.self (as-used old.course c.fail.new.self keeps) (omega (arith, ap (λ (x : Course). entries_due (state_of x)) same, e.due, e.room, letting-open 0 s.pages, c.push.ensures.room));
    }

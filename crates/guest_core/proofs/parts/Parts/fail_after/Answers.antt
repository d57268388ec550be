-- The guest has ended, and is kept as it is but for the cell.
use Rattle.std.proofs.Common.{rules, ◌≡◌, ◌<◌, ℕ, ◌++◌, Some, refl, sym, ap, ◌∙◌, subst, Option, map}
use Rattle.base_words.specs.declared.events.End.{End}
use Rattle.base_words.specs.declared.events.Event.TheVariants.{CellFails}
use Rattle.shootdown.specs.declared.notes.Note.TheVariants.{Made, Ended}
use Rattle.shootdown.specs.Notes.{sided}
use Rattle.isolation_law.specs.EndRows.{CellFailsIn}
use Rattle.isolation_law.specs.GuestState.{GuestState}
use Rattle.guest_course.specs.CourseView.{state_of}
use Rattle.guest_course.specs.FailCalls.{MayOutlive}
use Rattle.guest_core.proofs.FailLemmas.{Beyond, kept-beyond, room-failing, lingering, other-end, two-notes}
use Rattle.guest_core.proofs.EnterProofs.{one-row}
use Rattle.guest_core.specs.FailCalls.{told_if_ended}
use Rattle.guest_core.proofs.parts.Parts.fail_after.Goals as goal

pub returns-clause-kept : goal.returns-clause-kept
returns-clause-kept c =
    let old = c.args.self.now in
    let s = state_of old.course in
    let t = state_of c.fail.new.self in
    let k = c.requires.kept in
    let cell = c.args.cell in
    let end = c.args.end in
    let side = c.args.token.now.number in
    let may : MayOutlive s cell.0 = lingering s cell.0 end c.requires.ended (λ same. c.requires.may.before (c.requires.ended ∙ ap Some same)) c.requires.lives in
    let row : CellFailsIn s cell.0 t = c.fail.ensures.fails may in
    let still : t.end ≡ Some end = ap (λ (x : GuestState). x.end) row.after ∙ c.requires.ended in
    let told = two-notes c.args.token.now c.note.new.token c.note-2.new.token old.seat c.note.new.seat c.note-2.new.seat old.number.0 (Made (CellFails cell)) (Ended c.args.end) k.seat c.note.ensures.token c.note.ensures.seat c.note-2.ensures.token c.note-2.ensures.seat in
    let beyond : Beyond old cell side (Ended end) c.fail.new.self c.push.new.self c.note-2.new.seat = record {
      marks = c.fail.ensures.marks;
      sound = c.fail.ensures.sound may;
      goes_on = c.fail.ensures.goes_on may;
      row = row;
      there = subst (λ (n : ℕ). side < n) (sym k.kept.processors) c.requires.may.notes.is_processor;
      answers = tt;
      holds = (still, λ same. c.requires.may.before (c.requires.ended ∙ ap Some same));
      entries = c.push.ensures.entries;
      room = c.push.ensures.room;
      notes_of = told.heard;
    } in
    kept-beyond c.laws.ensures.rows c.laws.ensures.runs c.laws.ensures.moves c.laws.ensures.takes old cell side (Ended end) c.fail.new.self c.push.new.self c.note-2.new.seat k c.requires.room (c.exchanges.ensures.fails s t cell.0 row) (c.uses_change.ensures.fails s t cell.0 row) beyond

pub returns-clause-fails : goal.returns-clause-fails
returns-clause-fails c =
    let old = c.args.self.now in
    let s = state_of old.course in
    let t = state_of c.fail.new.self in
    let end = c.args.end in
    let may : MayOutlive s c.args.cell.0 = lingering s c.args.cell.0 end c.requires.ended (λ same. c.requires.may.before (c.requires.ended ∙ ap Some same)) c.requires.lives in
    let row : CellFailsIn s c.args.cell.0 t = c.fail.ensures.fails may in
    record {
      end = end;
      ended = c.requires.ended;
      other = λ same. other-end c.laws.ensures.runs old.start old.journal.entries s c.args.cell c.requires.kept.kept.run (c.requires.ended ∙ ap Some same) c.requires.lives;
      lives = c.requires.lives;
      makes = record { makes = record { journal = c.push.ensures.entries; run = one-row s t (CellFails c.args.cell) row }; passes = refl };
      stays = ap (λ (x : GuestState). x.end) row.after ∙ c.requires.ended;
    }

pub returns-clause-leaves : goal.returns-clause-leaves
returns-clause-leaves c =
    let old = c.args.self.now in
    let s = state_of old.course in
    let may : MayOutlive s c.args.cell.0 = lingering s c.args.cell.0 c.args.end c.requires.ended (λ same. c.requires.may.before (c.requires.ended ∙ ap Some same)) c.requires.lives in
    let told = two-notes c.args.token.now c.note.new.token c.note-2.new.token old.seat c.note.new.seat c.note-2.new.seat old.number.0 (Made (CellFails c.args.cell)) (Ended c.args.end) c.requires.kept.seat c.note.ensures.token c.note.ensures.seat c.note-2.ensures.token c.note-2.ensures.seat in
    record {
      learns = record {
        seat = told.notes ∙ ap (λ (o : Option End). old.seat.notes ++ map (sided c.args.token.now.number) (told_if_ended c.args.cell o)) (sym c.requires.ended);
        token_is = told.told ∙ ap (λ (o : Option End). record c.args.token.now { notes = c.args.token.now.notes ++ map (sided old.number.0) (told_if_ended c.args.cell o) }) (sym c.requires.ended);
      };
      same = record { number = refl; start = refl; disk = refl; board = told.board; table = refl; wires = refl; own = refl };
      handed = search rules;
      room = room-failing c.laws.ensures.rows c.laws.ensures.moves old.course c.fail.new.self c.args.cell old.journal.room c.push.new.self.room c.fail.ensures.marks (c.fail.ensures.fails may) c.push.ensures.room;
    }

-- The guest goes on, and is kept.
use Rattle.std.proofs.Common.{rules, ◌<◌, ℕ, refl, sym, subst, inl}
use Rattle.base_words.specs.declared.events.Event.TheVariants.{CellFails}
use Rattle.shootdown.specs.declared.notes.Note.TheVariants.{Made, Dead}
use Rattle.isolation_law.specs.EndRows.{CellFailsIn}
use Rattle.isolation_law.specs.Phases.{GoesOn}
use Rattle.guest_course.specs.CourseView.{state_of}
use Rattle.guest_course.specs.FailCalls.{MayOutlive}
use Rattle.guest_core.proofs.FailLemmas.{Beyond, kept-beyond, room-failing, on-outlives, dead-then, two-notes}
use Rattle.guest_core.proofs.EnterProofs.{one-row}
use Rattle.guest_core.proofs.parts.Parts.outlive.Goals as goal

pub returns-clause-kept : goal.returns-clause-kept
returns-clause-kept c =
    let old = c.args.self.now in
    let s = state_of old.course in
    let t = state_of c.fail.new.self in
    let k = c.requires.kept in
    let cell = c.args.cell in
    let side = c.args.token.now.number in
    let on : GoesOn s = k.goes_on c.requires.not_ended in
    let may : MayOutlive s cell.0 = record { phase = inl on; lives = c.requires.lives; unused = c.requires.unused } in
    let row : CellFailsIn s cell.0 t = c.fail.ensures.fails may in
    let told = two-notes c.args.token.now c.note.new.token c.note-2.new.token old.seat c.note.new.seat c.note-2.new.seat old.number.0 (Made (CellFails cell)) (Dead cell) k.seat c.note.ensures.token c.note.ensures.seat c.note-2.ensures.token c.note-2.ensures.seat in
    let beyond : Beyond old cell side (Dead cell) c.fail.new.self c.push.new.self c.note-2.new.seat = record {
      marks = c.fail.ensures.marks;
      sound = c.fail.ensures.sound may;
      goes_on = c.fail.ensures.goes_on may;
      row = row;
      there = subst (λ (n : ℕ). side < n) (sym k.kept.processors) c.requires.may.notes.is_processor;
      answers = tt;
      holds = on-outlives t cell.0 (c.fail.ensures.goes_on may on) (dead-then s t cell.0 row);
      entries = c.push.ensures.entries;
      room = c.push.ensures.room;
      notes_of = told.heard;
    } in
    kept-beyond c.laws.ensures.rows c.laws.ensures.runs c.laws.ensures.moves c.laws.ensures.takes old cell side (Dead cell) c.fail.new.self c.push.new.self c.note-2.new.seat k c.requires.room (c.exchanges.ensures.fails s t cell.0 row) (c.uses_change.ensures.fails s t cell.0 row) beyond

pub returns-clause-fails : goal.returns-clause-fails
returns-clause-fails c =
    let old = c.args.self.now in
    let s = state_of old.course in
    let t = state_of c.fail.new.self in
    let on : GoesOn s = c.requires.kept.goes_on c.requires.not_ended in
    let may : MayOutlive s c.args.cell.0 = record { phase = inl on; lives = c.requires.lives; unused = c.requires.unused } in
    let row : CellFailsIn s c.args.cell.0 t = c.fail.ensures.fails may in
    record {
      not_ended = c.requires.not_ended;
      lives = c.requires.lives;
      unused = c.requires.unused;
      makes = record { makes = record { journal = c.push.ensures.entries; run = one-row s t (CellFails c.args.cell) row }; passes = refl };
      goes_on = (c.fail.ensures.goes_on may on).not_ended;
    }

pub returns-clause-leaves : goal.returns-clause-leaves
returns-clause-leaves c =
    let old = c.args.self.now in
    let s = state_of old.course in
    let on : GoesOn s = c.requires.kept.goes_on c.requires.not_ended in
    let may : MayOutlive s c.args.cell.0 = record { phase = inl on; lives = c.requires.lives; unused = c.requires.unused } in
    let told = two-notes c.args.token.now c.note.new.token c.note-2.new.token old.seat c.note.new.seat c.note-2.new.seat old.number.0 (Made (CellFails c.args.cell)) (Dead c.args.cell) c.requires.kept.seat c.note.ensures.token c.note.ensures.seat c.note-2.ensures.token c.note-2.ensures.seat in
    record {
      learns = record { seat = told.notes; token_is = told.told };
      same = record { number = refl; start = refl; disk = refl; board = told.board; table = refl; wires = refl; own = refl };
      handed = search rules;
      room = room-failing c.laws.ensures.rows c.laws.ensures.moves old.course c.fail.new.self c.args.cell old.journal.room c.push.new.self.room c.fail.ensures.marks (c.fail.ensures.fails may) c.push.ensures.room;
    }

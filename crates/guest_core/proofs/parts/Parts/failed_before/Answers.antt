-- What was so is noted, and the guest is kept.
use Rattle.std.proofs.Common.{◌≡◌, ℕ, ◌<◌, Some, sym, ap, ◌∙◌, subst, rules}
use Rattle.base_words.specs.declared.events.End.TheVariants.{CellFailed}
use Rattle.shootdown.specs.declared.notes.Note.TheVariants.{Dead, Ended}
use Rattle.shootdown.specs.declared.view.SidedNote.{SidedNote}
use Rattle.shootdown.specs.Notes.{sided}
use Rattle.guest_course.specs.CourseView.{state_of}
use Rattle.guest_core.proofs.EnterProofs.{noted-kept}
use Rattle.guest_core.proofs.FailLemmas.{dead-outlives}
use Rattle.guest_core.proofs.KeptProofs.{kept-answer}
use Rattle.guest_core.proofs.parts.Parts.failed_before.Goals as goal

pub returns-then-eq-clause-kept : goal.returns-then-eq-clause-kept
returns-then-eq-clause-kept c =
    let old = c.args.self.now in
    let s = state_of old.course in
    let k = c.requires.kept in
    let end = CellFailed c.args.cell in
    let n : SidedNote = sided c.args.token.now.number (Ended end) in
    let is : s.end ≡ Some end = search rules in
    let kept = kept-answer c.laws.ensures.runs old.start s old.journal.entries old.seat.notes n k.kept (subst (λ (n : ℕ). c.args.token.now.number < n) (sym k.kept.processors) c.requires.may.notes.is_processor) tt (is, λ same. c.requires.may.before (is ∙ ap Some same)) in
    noted-kept old c.note.new.seat n k c.note.ensures.seat kept

pub returns-else-eq-clause-kept : goal.returns-else-eq-clause-kept
returns-else-eq-clause-kept c =
    let old = c.args.self.now in
    let s = state_of old.course in
    let k = c.requires.kept in
    let cell = c.args.cell in
    let n : SidedNote = sided c.args.token.now.number (Dead cell) in
    let other : s.end ≡ Some (CellFailed cell) → ⊥ = λ same. search rules in
    let kept = kept-answer c.laws.ensures.runs old.start s old.journal.entries old.seat.notes n k.kept (subst (λ (n : ℕ). c.args.token.now.number < n) (sym k.kept.processors) c.requires.may.notes.is_processor) tt (dead-outlives s cell c.requires.dead k.goes_on other) in
    noted-kept old c.note-else-eq.new.seat n k c.note-else-eq.ensures.seat kept

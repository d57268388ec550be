-- What is due was chosen for a page that is there, to come to the processor's node.
use Rattle.std.proofs.Common.{◌≡◌, ℕ, ◌+◌, ◌<◌, Some, length, sym, ap, ◌∙◌, subst, arith}
use Rattle.isolation_law.specs.GuestState.{due_on}
use Rattle.isolation_law.specs.Surroundings.{Surroundings, node_of_processor}
use Rattle.guest_course.specs.CourseView.{due_of, state_of}
use Rattle.guest_course.specs.SkipView.{wanting}
use Rattle.guest_core.proofs.DueLemmas.{is-place, is-due, node-there, seeks-planned}
use Rattle.guest_core.proofs.parts.Parts.due.Goals as goal

pub returns-clause-due : goal.returns-clause-due
returns-clause-due c = is-due c.args.self.now c.args.processor.0 c.index.result.now c.requires.kept c.requires.processor c.index.ensures

pub returns-clause-may : goal.returns-clause-may
returns-clause-may c = λ wish is.
    let g = c.args.self.now in
    let s = state_of g.course in
    let k = c.requires.kept in
    let fit = c.dues_fit.ensures.run g.start g.journal.entries s k.booted k.kept.run in
    let p = c.args.processor.0 in
    let due : due_on s p ≡ Some (wanting wish) = sym (is-due g p c.index.result.now k c.requires.processor c.index.ensures) ∙ ap due_of is in
    let node : node_of_processor s.around p < length s.around.nodes = subst (λ (n : ℕ). node_of_processor s.around n < length s.around.nodes) (let e : 0 + p ≡ p = omega arith in e) (node-there s.around 0 p g.course.places.items k.sound.places (is-place g p k c.requires.processor)) in
    record {
      is_page = λ on. subst (λ (n : ℕ). wish.page.0 < n) (c.pages_stay.ensures.run g.start g.journal.entries s k.booted k.kept.run on) (fit.page p (wanting wish) on due);
      is_node = subst (λ (w : Surroundings). wish.node.0 < length w.nodes) k.kept.around (subst (λ (n : ℕ). n < length s.around.nodes) (sym (fit.node p (wanting wish) due)) node);
      planned = seeks-planned g.start.around wish.page.0 wish.node.0 wish.kind (fit.seeks p (wanting wish) due);
    }

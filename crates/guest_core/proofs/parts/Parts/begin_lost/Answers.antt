-- The move takes no frame, and the guest is kept.
use Rattle.std.proofs.Common.{◌≡◌, inr, List, [], ◌∷◌, ◌++◌, refl, ap, ◌∙◌, subst}
use Rattle.base_words.specs.declared.events.Event.{Event}
use Rattle.base_words.specs.declared.events.Event.TheVariants.{Begin}
use Rattle.base_words.specs.declared.ids.NodeId.{NodeId}
use Rattle.base_words.specs.declared.moves.By.TheVariants.{Step}
use Rattle.base_words.specs.declared.moves.MoveKind.TheVariants.{Collapse}
use Rattle.private_machine.specs.Backing.{Copy}
use Rattle.isolation_law.specs.Exchange.{Exchanged}
use Rattle.isolation_law.specs.Surroundings.{Surroundings}
use Rattle.isolation_law.specs.UseChange.{UseChanged}
use Rattle.guest_course.specs.CourseView.{state_of}
use Rattle.guest_core.proofs.CopyLemmas.{copies-held}
use Rattle.guest_core.proofs.CountedCopies.{counted-uses}
use Rattle.guest_core.proofs.MoveLemmas.{begun-made, gains-none, kept-made}
use Rattle.guest_core.proofs.parts.Parts.begin_lost.Goals as goal

pub returns-clause-kept : goal.returns-clause-kept
returns-clause-kept c =
    let old = c.args.self.now in
    let d = c.begin_lost.new.self in
    let s = state_of old.course in
    let t = state_of d in
    let k = c.requires.kept in
    let q = c.args.page in
    let home : NodeId = record { 0 = s.around.home } in
    let by = Step c.args.processor in
    let e : Event = Begin q Collapse home by in
    let row = c.begin_lost.ensures.begins in
    let w = c.laws.ensures.rows in
    let none = gains-none row.change Collapse row.is_kind (inr refl) in
    let ex : Exchanged s t [] [] = subst (λ (l : List Copy). Exchanged s t l []) none (c.exchanges.ensures.begins s t q.0 Collapse s.around.home by row) in
    let used : UseChanged s t [] [] = subst (λ (l : List Copy). UseChanged s t l []) none (c.uses_change.ensures.begins s t q.0 Collapse s.around.home by row) in
    let entry : c.begin_entry.result ≡ e = c.begin_entry.ensures ∙ ap (λ (x : Surroundings). Begin q Collapse (record { 0 = x.home }) by) (w.around s t e row) in
    kept-made old e d old.holder old.uses c.push.new.self k
    (begun-made w c.laws.ensures.runs c.laws.ensures.moves c.laws.ensures.takes old d old.holder old.uses c.push.new.self q Collapse home by [] k c.requires.room c.begin_lost.ensures.sound c.begin_lost.ensures.goes_on row ex used
    (copies-held s old.holder.view k.frames.holding) (counted-uses s old.uses k.used) refl (c.push.ensures.entries ∙ ap (λ (x : Event). old.journal.entries ++ x ∷ []) entry) c.push.ensures.room)

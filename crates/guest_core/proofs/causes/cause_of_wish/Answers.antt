-- The first cause is a cell that has failed, or else one that the page shows.
use Rattle.std.proofs.Common.{◌≡◌, Option, Some, sym, ap, ◌∙◌, subst}
use Rattle.std.specs.Prelude.{IfSome, IfNone}
use Rattle.base_words.specs.declared.ids.CellId.{CellId}
use Rattle.isolation_law.specs.Causes.{by_cell, by_end, by_page}
use Rattle.isolation_law.specs.GuestState.{page}
use Rattle.isolation_law.specs.Parts.{DeadCell}
use Rattle.guest_course.specs.CourseView.{state_of}
use Rattle.guest_course.specs.SkipView.{wanting}
use Rattle.guest_core.proofs.causes.cause_of_wish.Goals as goal

pub returns-in-Some : goal.returns-in-Some
returns-in-Some c =
    let s = state_of c.args.course.now in
    let wish = wanting c.args.wish in
    let p = c.args.processor.0 in
    sym (ap (by_end s p wish) c.requires.not_ended ∙ subst (λ (o : Option CellId). IfSome o (λ cell. by_cell s p wish ≡ Some (DeadCell cell.0))) c.in-Some.is c.dead_cell.ensures.some)

pub returns-in-None : goal.returns-in-None
returns-in-None c =
    let s = state_of c.args.course.now in
    let wish = wanting c.args.wish in
    let p = c.args.processor.0 in
    c.cause_of_page.ensures ∙ sym (ap (by_end s p wish) c.requires.not_ended ∙ subst (λ (o : Option CellId). IfNone o (by_cell s p wish ≡ by_page s.around.frames wish.kind wish.node (page s wish.page))) c.in-None.is c.dead_cell.ensures.none)

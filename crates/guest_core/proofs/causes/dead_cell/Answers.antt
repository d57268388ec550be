-- The processor's own cell has failed, or that of the node, or neither.
use Rattle.std.proofs.Common.{ℕ, Some, sym, ap, ◌∙◌}
use Rattle.isolation_law.specs.GuestState.{is_dead}
use Rattle.isolation_law.specs.Parts.{DeadCell}
use Rattle.guest_course.specs.CourseView.{state_of}
use Rattle.guest_course.specs.SkipView.{wanting}
use Rattle.guest_core.proofs.CauseLemmas.{by-own}
use Rattle.guest_core.proofs.causes.dead_cell.Goals as goal

pub returns-then-is_dead-clause-some : goal.returns-then-is_dead-clause-some
returns-then-is_dead-clause-some c =
    let s = state_of c.args.course.now in
    let own = c.cell_of-own.ensures in
    by-own s c.args.processor.0 (wanting c.args.wish) (sym (c.is_dead.ensures ∙ ap (is_dead s) own) ∙ c.if-is_dead.true) ∙ ap (λ (n : ℕ). Some (DeadCell n)) (sym own)

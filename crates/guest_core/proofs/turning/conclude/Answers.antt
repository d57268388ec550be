-- Each page that is let go had a move, whose end was still to come.
use Rattle.std.proofs.Common.{arith, ◌≡◌, if◌then◌else◌, Bool, true, Some, sym, ap, ◌∙◌, subst}
use Rattle.guest_core.proofs.LettingLemmas.{letting-open}
use Rattle.base_words.specs.declared.events.End.TheVariants.{Halted}
use Rattle.isolation_law.specs.Phases.{all_halted}
use Rattle.guest_course.specs.CourseView.{state_of}
use Rattle.guest_core.specs.TurnParts.{Concludes}
use Rattle.guest_core.proofs.turning.conclude.Goals as goal

pub returns-then-has_halted-clause-room : goal.returns-then-has_halted-clause-room
returns-then-has_halted-clause-room c = omega (arith, c.close.ensures.due, c.close.ensures.room, c.push.ensures.room, letting-open 0 c.args.course.now.pmap.pages)

pub returns-then-has_halted-clause-concludes : goal.returns-then-has_halted-clause-concludes
returns-then-has_halted-clause-concludes c =
    let s = state_of c.args.course.now in
    let halted : all_halted s.vcpus ≡ true = sym c.has_halted.ensures ∙ c.if-has_halted.true in
    subst (λ (b : Bool). Concludes b s (state_of c.close.new.course)) (sym halted)
    (c.close.ensures.ends (c.requires.goes_on, ap (λ (b : Bool). if b then Some Halted else s.closing) halted))

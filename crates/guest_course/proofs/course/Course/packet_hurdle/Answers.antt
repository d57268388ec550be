-- What keeps the page that is armed.
use Rattle.std.proofs.Common.{option_map, sym, ap, ◌∙◌}
use Rattle.base_words.specs.declared.ids.Ppn.{Ppn}
use Rattle.guest_course.specs.CourseView.{state_of}
use Rattle.guest_course.proofs.HurdleLemmas.{keeps-at, keeps-none}
use Rattle.guest_course.proofs.course.Course.packet_hurdle.Goals as goal

pub hurdle-requires : goal.hurdle-requires
hurdle-requires c =
    let going = c.requires.sound.going c.requires.goes_on.not_ended in
    going.coherent.consistent.armed_page c.in-Some.page.0 (sym c.armed.ensures ∙ ap (option_map (λ (p : Ppn). p.0)) c.in-Some.is)

pub returns-in-Some : goal.returns-in-Some
returns-in-Some c =
    let s = state_of c.args.self.now in
    record { keeps = keeps-at s s.devices.armed c.in-Some.page.0 c.hurdle.result (sym c.armed.ensures ∙ ap (option_map (λ (p : Ppn). p.0)) c.in-Some.is) c.hurdle.ensures }

pub returns-in-None : goal.returns-in-None
returns-in-None c =
    let s = state_of c.args.self.now in
    record { keeps = keeps-none s s.devices.armed (sym c.armed.ensures ∙ ap (option_map (λ (p : Ppn). p.0)) c.in-None.is) }

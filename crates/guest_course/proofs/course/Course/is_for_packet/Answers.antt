-- The operation is a packet's, of the same place.
use Rattle.std.proofs.Common.{Some, sym, ap, ◌∙◌}
use Rattle.std.proofs.lemmas.List.{get_or-map}
use Rattle.private_machine.specs.Operation.{Delivers}
use Rattle.guest_course.specs.CourseView.{purpose_of}
use Rattle.guest_course.proofs.TakingProofs.{delivers-at, on-equal}
use Rattle.guest_course.proofs.course.Course.is_for_packet.Goals as goal

pub returns-in-Some-clause-yes : goal.returns-in-Some-clause-yes
returns-in-Some-clause-yes c =
    on-equal c.in-Some.place c.hand_place.result _ (λ e.
    let is = delivers-at (purpose_of c.index.result.now) c.in-Some.place (sym c.place_of.ensures ∙ c.in-Some.is) in
    (is.0, get_or-map purpose_of c.args.self.now.operations.items c.args.page.0 c.index.result.now _ c.requires ∙ ap purpose_of (sym c.index.ensures) ∙ is.1 ∙ (λ i. Some (Delivers ((e ∙ c.hand_place.ensures) i) is.0))))

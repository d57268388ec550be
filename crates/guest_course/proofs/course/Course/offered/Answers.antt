-- The packet goes on the wire to its receiver.
use Rattle.std.proofs.Common.{◌≡◌, sym, ap, ◌∙◌, subst}
use Rattle.std.specs.Option.{option_map}
use Rattle.std.proofs.lemmas.Result.{IfOk-weaker}
use Rattle.private_machine.specs.Backing.{page_at}
use Rattle.private_machine.specs.DevicePage.{transfer_of}
use Rattle.isolation_law.specs.Surroundings.{cell_of_frame}
use Rattle.wire_queue.specs.Lines.{Fits}
use Rattle.virtual_subnet.specs.Offering.{handed_of, offered}
use Rattle.guest_course.specs.declared.course.Course.{Course}
use Rattle.guest_course.specs.CourseView.{surroundings, state_of}
use Rattle.guest_course.specs.Posting.{sent_handed}
use Rattle.guest_course.proofs.OfferProofs.{lent, offered-fits}
use Rattle.guest_course.proofs.course.Course.offered.Goals as goal

pub returns-clause-fits : goal.returns-clause-fits
returns-clause-fits c =
    let old = c.args.self.now in
    let s = state_of old in
    let v = c.args.vcpu.0 in
    let same = c.handed.ensures.same in
    let transfer : c.transfer-transfer.result ≡ transfer_of old.devs.state.page v = c.transfer-transfer.ensures ∙ ap (λ (x : Course). transfer_of x.devs.state.page v) same in
    let hands = lent c.as_ref.result ∙ ap (option_map handed_of) c.as_ref.ensures.value ∙ c.in_ok-shared.ensures.handed ∙ ap (sent_handed s v) c.from.ensures in
    let master : c.master.result.0 ≡ (page_at old.pmap.pages (transfer_of old.devs.state.page v).send_page).master.frame =
    c.master.ensures ∙ (λ i. (page_at (same i).pmap.pages (transfer i).send_page).master.frame) in
    let cell = c.cell_of-cell.ensures ∙ (λ i. cell_of_frame (surroundings (same i).around) (master i)) in
    IfOk-weaker c.offer.result _ _ (λ packet is line from to terms.
    subst (Fits line) (sym (is ∙ (λ i. offered c.page.result.now (transfer i).send_length (hands i) (cell i) (same i).around.number.0)))
    (offered-fits c.offered_fits.ensures.plain c.offered_fits.ensures.whole s v c.args.to.0 c.requires.within old.around.site.shape.has_frames c.requires.may c.page.result.now line from to terms))
    c.offer.ensures

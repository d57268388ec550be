-- The frame that is handed on is the packet's, with its bytes.
use Rattle.std.proofs.Common.{◌≡◌, ℕ, List, Some, length, take, take_all, arith, sym, ap, ◌∙◌, subst}
use Rattle.std.specs.Arc.{arc_value}
use Rattle.private_machine.specs.Backing.{Copy}
use Rattle.private_machine.specs.Operation.{Delivers}
use Rattle.wire_queue.specs.Packets.{page_of, whole_of as handed_by}
use Rattle.wire_queue.specs.declared.packet.Body.TheVariants.{Whole}
use Rattle.guest_course.specs.CourseRules.{FitsInHand}
use Rattle.guest_course.specs.CourseView.{surroundings}
use Rattle.guest_course.proofs.course.Course.delivery.Goals as goal

pub returns-clause-some : goal.returns-clause-some
returns-clause-some c =
    let packet = c.in-Some.packet in
    let frame = c.in-Whole.frame in
    let body : packet.body ≡ Whole frame = c.in-Whole.is in
    let fits = subst (FitsInHand (surroundings c.args.self.now.around)) c.in-Some.is c.requires.in_hand in
    let whole = ap handed_by body in
    let full : packet.length ≡ 4096 = (fits.whole _ whole).full in
    let page : List ℕ = (arc_value frame.page).value in
    let long : length page ≡ 4096 = ap length (sym (c.deref-2.ensures ∙ ap (λ b. b.value) c.deref.ensures)) ∙ c.bytes-whole.ensures.whole in
    let all : take packet.length (page_of packet.body) ≡ page = (λ i. take (full i) (page_of (body i))) ∙ take_all 4096 page (omega (arith, long)) in
    record {
      packet = packet;
      in_hand = c.in-Some.is;
      handed = whole ∙ ap (λ (x : Copy). Some (record { frame = x.frame; generation = x.generation })) (sym c.in_ok-target.ensures);
      whole = ap length all ∙ long;
      bytes = ap (λ (x : Copy). x.bytes) c.in_ok-target.ensures ∙ sym all;
      is_for = λ i. Delivers (c.hand_place.ensures i) (record {
        from = packet.from.0;
        cell = packet.cell.0;
        bytes = take (sym full i) ((ap (λ a. a.value) c.in_ok-try_clone.ensures ∙ sym (ap page_of body)) i);
      });
    }

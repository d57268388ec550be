-- The packet's frame backs the page: the row, and the guest is as sound as before.
use Rattle.std.proofs.Common.{◌≤◌, inr, Some, None, length, option_map, refl, sym, ap, ◌∙◌, subst}
use Rattle.std.proofs.lemmas.Option.{same_Some}
use Rattle.base_words.specs.declared.events.Event.TheVariants.{PacketIn}
use Rattle.private_machine.specs.Backing.{page_at}
use Rattle.private_machine.specs.Operation.{Packet}
use Rattle.private_machine.specs.PageMove.{dropped_taken}
use Rattle.pmap_table.specs.Ending.{numbers_of}
use Rattle.isolation_law.specs.GuestState.{GuestState, processor}
use Rattle.isolation_law.specs.PacketRows.{EndsDelivery}
use Rattle.isolation_law.specs.Phases.{all_halted}
use Rattle.guest_course.specs.declared.course.Course.{Course}
use Rattle.guest_course.specs.Acting.{IsOwnDelivery, IsTaken}
use Rattle.guest_course.specs.CourseView.{surroundings, state_of, hand_of}
use Rattle.guest_course.specs.CourseRules.{FitsInHand}
use Rattle.guest_course.specs.EmulateCalls.{StaysLoaded}
use Rattle.guest_course.proofs.DeliveryProofs.{NotesPacket, KeepsPacket, ends-delivery-row, noted-remade, kept-remade, noted-halted}
use Rattle.guest_course.proofs.EmulateProofs.{remade-rebacked, sound-remade}
use Rattle.guest_course.proofs.StepProofs.{goes-on}
use Rattle.guest_course.proofs.TakingProofs.{still-taken}
use Rattle.guest_course.proofs.RebackLemmas.{well, is-well}
use Rattle.guest_course.proofs.course.Course.end_delivery.Goals as goal

pub got-requires : goal.got-requires
got-requires c = (subst (FitsInHand (surroundings c.args.self.now.around)) c.in-Some-hand.is c.requires.sound.in_hand).few

pub note_packet-requires-clause-few : goal.note_packet-requires-clause-few
note_packet-requires-clause-few c =
    let going = c.requires.sound.going c.requires.goes_on.not_ended in
    subst (λ (x : Packet). length x.bytes ≤ 4096) (sym c.in_ok-packet.ensures) (going.coherent.consistent.packet (hand_of c.in-Some-hand.packet) (ap (option_map hand_of) c.in-Some-hand.is))

pub take-freed-requires-clause-taken : goal.take-freed-requires-clause-taken
take-freed-requires-clause-taken c =
    still-taken c.args.self.now c.note_packet.new.self c.in-Some.page.0 (ap (λ (x : Course). x.pmap.pages) c.note_packet.ensures.same) (c.requires.own c.in-Some.page.0 (sym c.in-Some.ensures)).taken

own : (c : goal.After-push_reserved) → IsOwnDelivery (state_of c.args.self.now) c.in-Some.page.0
own c = c.requires.own c.in-Some.page.0 (sym c.in-Some.ensures)

taken-still : (c : goal.After-push_reserved) → IsTaken (state_of c.note_packet.new.self) c.in-Some.page.0
unfolding own
taken-still c = still-taken c.args.self.now c.note_packet.new.self c.in-Some.page.0 (ap (λ (x : Course). x.pmap.pages) c.note_packet.ensures.same) (own c).taken

new : goal.After-push_reserved → Course
new c = record c.take-freed.new.self { received = c.push_reserved.new.self; hand = None }

notes : (c : goal.After-push_reserved) → NotesPacket c.args.self.now c.note_packet.new.self c.in-Some.page.0 c.in_ok-packet.packet
notes c = record { same = c.note_packet.ensures.same; vcpus = c.note_packet.ensures.vcpus; devs = c.note_packet.ensures.devs; agree = c.note_packet.ensures.agree }

keeps : (c : goal.After-push_reserved) → KeepsPacket c.take-freed.new.self (new c) c.in_ok-packet.packet
unfolding new
keeps c = record { same = refl; received = c.push_reserved.ensures.items }

row : (c : goal.After-push_reserved) → EndsDelivery (state_of c.args.self.now) (length c.args.self.now.received.items) (state_of (new c))
unfolding new own taken-still keeps notes
row c =
    ends-delivery-row c.args.self.now c.note_packet.new.self c.take-freed.new.self (new c) c.in-Some.page.0 c.in_ok-packet.packet c.requires.goes_on (sym c.in-Some.ensures)
    (ap (option_map hand_of) c.in-Some-hand.is ∙ ap Some (sym c.in_ok-packet.ensures)) c.requires.lives (own c) (notes c) (c.take-freed.ensures.taken (taken-still c)) (keeps c)

pub returns-clause-ends : goal.returns-clause-ends
unfolding row new
returns-clause-ends c = row c

pub returns-clause-freed : goal.returns-clause-freed
returns-clause-freed c q armed =
    c.take-freed.ensures.freed ∙ ap (λ (x : Course). numbers_of (dropped_taken (page_at x.pmap.pages c.in-Some.page.0))) c.note_packet.ensures.same
    ∙ ap (λ k. numbers_of (dropped_taken (page_at c.args.self.now.pmap.pages k))) (same_Some c.in-Some.page.0 q (c.in-Some.ensures ∙ armed))

stays : (c : goal.After-push_reserved) → StaysLoaded (state_of c.args.self.now) (state_of (new c))
unfolding new taken-still
stays c = record {
  loaded = λ r. ap (λ (s : GuestState). (processor s r).loaded) (c.take-freed.ensures.taken (taken-still c)) ∙ ap (λ (x : Course). (processor (state_of x) r).loaded) c.note_packet.ensures.same;
  end = c.take-freed.ensures.rebacked.ended ∙ ap (λ (x : Course). x.ended) c.note_packet.ensures.same;
}

pub returns-clause-stays : goal.returns-clause-stays
unfolding stays new
returns-clause-stays c = stays c

pub returns-clause-goes_on : goal.returns-clause-goes_on
unfolding new notes
returns-clause-goes_on c =
    goes-on c.args.self.now (new c)
    (ap (λ l. all_halted l.items) c.take-freed.ensures.rebacked.vcpus ∙ noted-halted c.args.self.now c.note_packet.new.self c.in-Some.page.0 c.in_ok-packet.packet (notes c))
    (c.take-freed.ensures.rebacked.ended ∙ ap (λ (x : Course). x.ended) c.note_packet.ensures.same) c.requires.goes_on

pub returns-clause-sound : goal.returns-clause-sound
unfolding new row stays notes keeps
returns-clause-sound c =
    let old = c.args.self.now in
    let q = c.in-Some.page.0 in
    let x = c.in_ok-packet.packet in
    let sound = c.requires.sound in
    let on = c.requires.goes_on.not_ended in
    let mid = noted-remade old c.note_packet.new.self q x sound on (notes c) in
    sound-remade old (new c) sound on (kept-remade old c.take-freed.new.self (new c) x (remade-rebacked old c.note_packet.new.self c.take-freed.new.self mid c.take-freed.ensures.rebacked) (keeps c))
    (λ r u is. sound.loaded r u (sym ((stays c).loaded r) ∙ is))
    (well c.row_keeps.ensures.coherent c.row_keeps.ensures.uses_live (state_of old) (state_of (new c)) (PacketIn (length old.received.items)) (is-well (sound.going on)) (inr (row c)) ((stays c).end ∙ on))

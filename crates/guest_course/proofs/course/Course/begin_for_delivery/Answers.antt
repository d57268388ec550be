-- The packet in hand asks for it.
use Rattle.std.proofs.Common.{Some, option_map, sym, ap, ◌∙◌, subst}
use Rattle.base_words.specs.declared.moves.By.TheVariants.{Packet}
use Rattle.private_machine.specs.Operation.{Operation}
use Rattle.base_words.specs.declared.moves.MoveKind.TheVariants.{TakeShared}
use Rattle.isolation_law.specs.MoveRows.{Asks, bytes_for}
use Rattle.guest_course.specs.CourseView.{hand_of, state_of}
use Rattle.guest_course.specs.MoveCalls.{home_wish}
use Rattle.guest_course.proofs.NeededProofs.{delivery-asks}
use Rattle.guest_course.proofs.course.Course.begin_for_delivery.Goals as goal

pub begin_taking-requires-clause-may : goal.begin_taking-requires-clause-may
begin_taking-requires-clause-may c =
    let s = state_of c.args.self.now in
    let hands = c.requires.hands in
    record {
      goes_on = c.requires.goes_on;
      is_page = (c.requires.sound.going c.requires.goes_on.not_ended).coherent.consistent.armed_page c.args.page.0 c.requires.armed;
      rests = c.requires.rests;
      bytes = hands.bytes ∙ ap (bytes_for s) (sym hands.is_for);
      lives = c.requires.target;
    }

pub begin_taking-requires-clause-asked : goal.begin_taking-requires-clause-asked
begin_taking-requires-clause-asked c =
    let s = state_of c.args.self.now in
    let hands = c.requires.hands in (
      Packet,
      subst (λ (o : Operation). Asks s Packet (home_wish s c.args.page.0 TakeShared) (Some o)) (sym hands.is_for)
          (delivery-asks s c.args.page.0 (hand_of hands.packet) (ap (option_map hand_of) hands.in_hand) c.requires.armed c.requires.lives hands.whole),
    )

pub returns-clause-begins : goal.returns-clause-begins
returns-clause-begins c =
    let s = state_of c.args.self.now in
    let hands = c.requires.hands in
    c.begin_taking.ensures.begins Packet (subst (λ (o : Operation). Asks s Packet (home_wish s c.args.page.0 TakeShared) (Some o)) (sym hands.is_for)
    (delivery-asks s c.args.page.0 (hand_of hands.packet) (ap (option_map hand_of) hands.in_hand) c.requires.armed c.requires.lives hands.whole))

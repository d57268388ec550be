-- The frame that the packet hands on lies at home, and is the guest's with the move that has begun.
use Rattle.std.specs.Option.{option_and_then}
use Rattle.std.proofs.Common.{◌≡◌, ◌++◌, ◌∷◌, [], Option, Some, option_map, refl, ap, ◌∙◌, subst, arith}
use Rattle.std.specs.Prelude.{IfSome}
use Rattle.base_words.specs.declared.events.Event.{Event}
use Rattle.base_words.specs.declared.events.Event.TheVariants.{Begin}
use Rattle.base_words.specs.declared.frame.SharedFrame.{SharedFrame}
use Rattle.base_words.specs.declared.ids.NodeId.{NodeId}
use Rattle.base_words.specs.declared.moves.By.TheVariants.{Packet}
use Rattle.base_words.specs.declared.moves.MoveKind.TheVariants.{TakeShared}
use Rattle.private_machine.specs.Backing.{Change, TakesShared}
use Rattle.private_machine.specs.PageMove.{gained}
use Rattle.pmap_table.specs.Frames.{shared_copy_of}
use Rattle.isolation_law.specs.Exchange.{Exchanged}
use Rattle.isolation_law.specs.GuestState.{is_dead}
use Rattle.isolation_law.specs.Surroundings.{Surroundings}
use Rattle.isolation_law.specs.UseChange.{UseChanged}
use Rattle.wire_queue.specs.Packets.{packet_of}
use Rattle.wire_queue.specs.declared.packet.WirePacket.{WirePacket}
use Rattle.guest_course.specs.CourseRules.{FitsInHand, IsHandedHome}
use Rattle.guest_course.specs.CourseView.{hand_of, state_of, surroundings}
use Rattle.guest_course.specs.TakingCalls.{HandsOn, whole_of}
use Rattle.guest_course.specs.declared.course.Course.{Course}
use Rattle.guest_course.specs.declared.operation.Delivery.{Delivery}
use Rattle.guest_core.proofs.ActLemmas.{acts-opened}
use Rattle.guest_core.proofs.EnterProofs.{handed-same, one-row}
use Rattle.guest_core.proofs.GainLemmas.{does-begun, same-begun}
use Rattle.guest_core.proofs.KeptProofs.{begin-due}
use Rattle.guest_core.proofs.MoveLemmas.{begun-made, kept-made}
use Rattle.guest_core.proofs.RoomLemmas.{UsesCall, no-more, room-used}
use Rattle.guest_core.proofs.parts.Parts.share_packet.Goals as goal

-- what is handed on, of what was found
found : (c : Course) (o : Option (SharedFrame × Delivery)) (x : SharedFrame × Delivery) → o ≡ Some x → IfSome o (λ y. HandsOn c y.0 y.1) → HandsOn c x.0 x.1
found c o x is some = subst (λ (y : Option (SharedFrame × Delivery)). IfSome y (λ z. HandsOn c z.0 z.1)) is some

-- the frame lies on the guest's home cell
at-home : (c : Course) (target : SharedFrame) (delivery : Delivery) → FitsInHand (surroundings c.around) c.hand → (h : HandsOn c target delivery) → IsHandedHome (surroundings c.around) (packet_of h.packet) (record { frame = target.number.0; generation = target.generation })
at-home c target delivery fits h =
    let hand : FitsInHand (surroundings c.around) (Some h.packet) = subst (FitsInHand (surroundings c.around)) h.in_hand fits in
    hand.whole (record { frame = target.number.0; generation = target.generation }) h.handed

pub hold_too-held-requires-clause-spread : goal.hold_too-held-requires-clause-spread
hold_too-held-requires-clause-spread c = c.frames_spread.ensures c.args.self.now.start c.args.self.now.journal.entries _ c.requires.kept.booted c.requires.kept.kept.run

pub hold_too-held-requires-clause-within : goal.hold_too-held-requires-clause-within
hold_too-held-requires-clause-within c =
    let course = c.args.self.now.course in
    (at-home course c.in-Some.target c.in-Some.delivery c.requires.kept.sound.in_hand (found course c.in_ok-target.field-0 (c.in-Some.target, c.in-Some.delivery) c.in-Some.is c.in_ok-target.ensures.some)).within

pub hold_too-held-requires-clause-at_home : goal.hold_too-held-requires-clause-at_home
hold_too-held-requires-clause-at_home c =
    let course = c.args.self.now.course in
    (at-home course c.in-Some.target c.in-Some.delivery c.requires.kept.sound.in_hand (found course c.in_ok-target.field-0 (c.in-Some.target, c.in-Some.delivery) c.in-Some.is c.in_ok-target.ensures.some)).home

pub begin_for_delivery-requires-clause-target : goal.begin_for_delivery-requires-clause-target
begin_for_delivery-requires-clause-target c =
    let course = c.args.self.now.course in
    let hands = found course c.in_ok-target.field-0 (c.in-Some.target, c.in-Some.delivery) c.in-Some.is c.in_ok-target.ensures.some in
    let home = at-home course c.in-Some.target c.in-Some.delivery c.requires.kept.sound.in_hand hands in
    ap (is_dead (state_of course)) home.lies ∙ c.requires.lives (hand_of hands.packet) (ap (option_map hand_of) hands.in_hand)

pub returns-clause-kept : goal.returns-clause-kept
returns-clause-kept c =
    let old = c.args.self.now in
    let d = c.begin_for_delivery.new.self in
    let s = state_of old.course in
    let t = state_of d in
    let k = c.requires.kept in
    let q = c.args.page in
    let target = shared_copy_of c.in-Some.target in
    let home : NodeId = record { 0 = s.around.home } in
    let e : Event = Begin q TakeShared home Packet in
    let row = c.begin_for_delivery.ensures.begins in
    let w = c.laws.ensures.rows in
    let changes : row.change ≡ TakesShared target = same-begun s t q.0 TakeShared s.around.home Packet (TakesShared target) _ _ row c.begin_for_delivery.ensures.opened in
    let ex : Exchanged s t (target ∷ []) [] = subst (λ (x : Change). Exchanged s t (gained x) []) changes (c.exchanges.ensures.begins s t q.0 TakeShared s.around.home Packet row) in
    let used : UseChanged s t (target ∷ []) [] = subst (λ (x : Change). UseChanged s t (gained x) []) changes (c.uses_change.ensures.begins s t q.0 TakeShared s.around.home Packet row) in
    let entry : c.begin_entry.result ≡ e = c.begin_entry.ensures ∙ ap (λ (x : Surroundings). Begin q TakeShared (record { 0 = x.home }) Packet) (w.around s t e row) in
    let holds = c.if-not-held.ensures.holds in
    kept-made old e d c.hold_too-held.new.holder c.hold_too-held.new.uses c.push.new.self k
    (begun-made w c.laws.ensures.runs c.laws.ensures.moves c.laws.ensures.takes old d c.hold_too-held.new.holder c.hold_too-held.new.uses c.push.new.self q TakeShared home Packet (target ∷ []) k c.requires.room c.begin_for_delivery.ensures.sound c.begin_for_delivery.ensures.goes_on row ex used
    holds.held_too holds.counted_too refl (c.push.ensures.entries ∙ ap (λ (x : Event). old.journal.entries ++ x ∷ []) entry) c.push.ensures.room)

pub returns-clause-shares : goal.returns-clause-shares
returns-clause-shares c =
    let old = c.args.self.now in
    let d = c.begin_for_delivery.new.self in
    let s = state_of old.course in
    let t = state_of d in
    let q = c.args.page in
    let row = c.begin_for_delivery.ensures.begins in
    let target = shared_copy_of c.in-Some.target in
    let hands = found old.course c.in_ok-target.field-0 (c.in-Some.target, c.in-Some.delivery) c.in-Some.is c.in_ok-target.ensures.some in
    let e : Event = Begin q TakeShared (record { 0 = s.around.home }) Packet in
    let entry : c.begin_entry.result ≡ e = c.begin_entry.ensures ∙ ap (λ (x : Surroundings). Begin q TakeShared (record { 0 = x.home }) Packet) (c.laws.ensures.rows.around s t e row) in
    record {
      begins = record {
        makes = record { journal = c.push.ensures.entries ∙ ap (λ (x : Event). old.journal.entries ++ x ∷ []) entry; run = one-row s t e row };
        hand = ap (λ (o : Option WirePacket). option_map hand_of o) c.begin_for_delivery.ensures.packets.hand;
        handed = handed-same old.course d c.begin_for_delivery.ensures.packets.hand;
        not_ended = c.begin_for_delivery.ensures.goes_on.not_ended;
      };
      over = record {
        copy = target;
        hands_on = ap (λ (o : Option WirePacket). option_and_then whole_of o) hands.in_hand ∙ hands.handed;
        adds = c.if-not-held.ensures.adds;
        into = does-begun s t q.0 (TakesShared target) _ _ row.is_page c.begin_for_delivery.ensures.opened;
      };
    }

pub returns-clause-leaves : goal.returns-clause-leaves
returns-clause-leaves c =
    let old = c.args.self.now in
    let s = state_of old.course in
    let d = c.begin_for_delivery.new.self in
    let t = state_of d in
    let e = c.begin_for_delivery.ensures in
    let uses : UsesCall old.course d = record {
      print_room = omega (arith, e.print_room);
      send_room = omega (arith, e.send_room);
      cells = no-more _ _ e.cells;
      received = no-more _ _ e.packets.received;
      discarded = no-more _ _ e.packets.discarded;
      begins = omega (arith, e.room);
      skips = no-more _ _ e.skips;
    } in
    record {
      notes = refl;
      passes = refl;
      acts = acts-opened s t c.args.page.0 TakeShared s.around.home Packet e.begins;
      same = record { number = refl; start = refl; disk = refl; board = refl; table = c.hold_too-held.ensures.same; wires = refl; own = refl };
      room = room-used _ _ old.course d uses (omega (arith, begin-due c.laws.ensures.rows c.laws.ensures.moves s t c.args.page TakeShared (record { 0 = s.around.home }) Packet e.begins, c.push.ensures.room));
    }

-- The packet in hand is the next that is thrown away: the row, and the guest is as sound as before.
use Rattle.std.proofs.Common.{◌≡◌, None, length, option_map, refl, sym, ap, ◌∙◌, Some}
use Rattle.std.proofs.lemmas.Option.{same_Some}
use Rattle.base_words.specs.declared.events.Event.TheVariants.{Discard}
use Rattle.isolation_law.specs.PacketRows.{Discards}
use Rattle.guest_course.specs.CourseView.{state_of, hand_of, got_of}
use Rattle.guest_course.proofs.RebackLemmas.{well, is-well}
use Rattle.guest_course.proofs.ReceivingProofs.{discards-row, discards-sound}
use Rattle.guest_course.proofs.course.Course.discard.Goals as goal

is_it : (c : goal.After-push_reserved) → c.requires.lost.packet ≡ got_of c.in_ok-packet.packet
is_it c = same_Some c.requires.lost.packet (got_of c.in_ok-packet.packet) (sym c.requires.lost.in_hand ∙ ap (option_map hand_of) c.in-Some.is ∙ ap Some (sym c.in_ok-packet.ensures))

row : (c : goal.After-push_reserved) → Discards (state_of c.args.self.now) (length c.args.self.now.discarded.items) (state_of (record c.args.self.now { hand = None; discarded = c.push_reserved.new.self }))
row c = discards-row c.args.self.now (record c.args.self.now { hand = None; discarded = c.push_reserved.new.self }) c.in_ok-packet.packet c.requires.goes_on c.requires.lost (is_it c) (record { same = refl; items = c.push_reserved.ensures.items })

pub returns-clause-discards : goal.returns-clause-discards
unfolding row
returns-clause-discards c = row c

pub returns-clause-sound : goal.returns-clause-sound
unfolding row
returns-clause-sound c =
    let old = c.args.self.now in
    discards-sound old c.push_reserved.new.self c.requires.sound
    (λ on. well c.row_keeps.ensures.coherent c.row_keeps.ensures.uses_live (state_of old) _ (Discard (length old.discarded.items)) (is-well (c.requires.sound.going on)) (row c) on)

-- A packet comes to hand, and then what is in hand is taken in.
use Rattle.std.proofs.Common.{◌≡◌, ◌≢◌, ⊎_elim, true, false, Option, Some, None, is_some, option_map, refl, sym, ap, ◌∙◌, Ok, subst, ℕ}
use Rattle.private_machine.specs.Operation.{Packet}
use Rattle.isolation_law.specs.GuestState.{GuestState}
use Rattle.isolation_law.specs.PacketRows.{ComesToHand}
use Rattle.isolation_law.specs.Run.{Silent}
use Rattle.wire_queue.specs.declared.packet.WirePacket.{WirePacket}
use Rattle.guest_course.specs.CourseView.{hand_of, state_of}
use Rattle.guest_core.proofs.EnterProofs.{none-handed}
use Rattle.guest_core.specs.GuestView.{guest_of, shared_by}
use Rattle.guest_core.proofs.ActingLemmas.{are-again}
use Rattle.guest_core.proofs.PacketLemmas.{then-takes, armed-then, takes-err, then-same}
use Rattle.guest_core.specs.declared.answers.Packeted.TheVariants as packeted
use Rattle.guest_core.proofs.HandedLemmas.{keeps-all}
use Rattle.guest_core.specs.PacketCalls.{KeepsInHand, DiscardsNext}
use Rattle.guest_core.proofs.parts.Parts.take_next.Goals as goal

-- an option that has something, seen otherwise, has something
is-in-hand : (hand : Option WirePacket) → is_some hand ≡ true → option_map hand_of hand ≢ None
is-in-hand None some = absurd (no some)
  where
    no : false ≡ true → ⊥
    no e = cc
is-in-hand (Some packet) some = none
  where
    none : Some (hand_of packet) ≡ None → ⊥
    none e = cc

pub returns-clause-takes : goal.returns-clause-takes
returns-clause-takes g c =
    then-takes (guest_of c.args.self.now) (guest_of c.fetch.new.self) (guest_of c.take_in.new.self) c.take_in.result c.requires.armed c.fetch.ensures.fetches (is-in-hand c.fetch.new.self.course.hand c.if-is_none.ensures) c.take_in.ensures.leaves.passes c.take_in.ensures.takes

pub returns-clause-acts : goal.returns-clause-acts
returns-clause-acts g c = λ p may. c.take_in.ensures.leaves.acts p (c.fetch.ensures.acts p may)

-- nothing comes to hand where nothing is in hand afterwards
nothing : (s m : GuestState) → m.hand ≡ None → Silent s m → m ≡ s
nothing s m none silent = ⊎_elim (λ (e : m ≡ s). e) (λ (x : ComesToHand s m). absurd (no x.packet (sym (ap (λ (y : GuestState). y.hand) x.after) ∙ none))) silent
  where
    no : (packet : Packet) → Some packet ≡ None → ⊥
    no packet e = cc

none-in-hand : (hand : Option WirePacket) → is_some hand ≡ false → option_map hand_of hand ≡ None
none-in-hand None e = refl
none-in-hand (Some packet) e = absurd (no e)
  where
    no : true ≡ false → ⊥
    no e = cc

pub returns-then-is_none-clause-takes : goal.returns-then-is_none-clause-takes
returns-then-is_none-clause-takes g c =
    let old = c.args.self.now in
    let new = c.fetch.new.self in
    let f = c.fetch.ensures.fetches in
    let empty = none-in-hand new.course.hand c.if-is_none.ensures in
    let same = nothing (state_of old.course) (state_of new.course) empty f.silent in
    let none = sym (ap (λ (s : GuestState). s.hand) same) ∙ empty in
    record {
      armed = c.requires.armed;
      none = none;
      asked = f.asked none empty;
      stays = record { journal = f.journal; state = same; view = f.quiet.view };
      handed = none-handed new.course empty ∙ sym (none-handed old.course none);
      notes = f.quiet.notes;
    }

pub take_in-requires-clause-shared : goal.take_in-requires-clause-shared
take_in-requires-clause-shared g c = are-again (shared_by c.args.resources.now) (guest_of c.args.self.now) (guest_of c.fetch.new.self) c.requires.shared c.fetch.ensures.same

pub take_in-requires-clause-armed : goal.take_in-requires-clause-armed
take_in-requires-clause-armed g c = armed-then (guest_of c.args.self.now) (guest_of c.fetch.new.self) c.fetch.ensures.fetches c.requires.armed

pub discard-requires-clause-armed : goal.discard-requires-clause-armed
discard-requires-clause-armed g c = armed-then (guest_of c.args.self.now) (guest_of c.fetch.new.self) c.fetch.ensures.fetches c.requires.armed

pub take_in-requires-clause-in_hand : goal.take_in-requires-clause-in_hand
take_in-requires-clause-in_hand g c = is-in-hand c.fetch.new.self.course.hand c.if-is_none.ensures

-- ---- the packet is lost

pub returns-in-Some-clause-takes : goal.returns-in-Some-clause-takes
returns-in-Some-clause-takes g c =
    let full = is-in-hand c.fetch.new.self.course.hand c.if-is_none.ensures in
    let lost = c.in-Some.ensures.some in
    then-takes (guest_of c.args.self.now) (guest_of c.fetch.new.self) (guest_of c.discard.new.self) (Ok (packeted.Discarded c.in-Some.cell)) c.requires.armed c.fetch.ensures.fetches full c.discard.ensures.leaves.passes (subst (λ (n : ℕ). DiscardsNext (guest_of c.fetch.new.self) n (guest_of c.discard.new.self)) (sym lost.1) (c.in_ok-discard.ensures.discarded lost.0))

pub returns-in-Some-clause-same : goal.returns-in-Some-clause-same
returns-in-Some-clause-same g c = then-same (guest_of c.args.self.now) (guest_of c.fetch.new.self) (guest_of c.discard.new.self) c.fetch.ensures.same c.discard.ensures.leaves.same

pub returns-in_err-discard-clause-takes : goal.returns-in_err-discard-clause-takes
returns-in_err-discard-clause-takes g c =
    let old = guest_of c.args.self.now in
    let mid = guest_of c.fetch.new.self in
    let full = is-in-hand c.fetch.new.self.course.hand c.if-is_none.ensures in
    let kept : KeepsInHand mid (guest_of c.discard.new.self) = keeps-all mid (guest_of c.discard.new.self) (armed-then old mid c.fetch.ensures.fetches c.requires.armed) full (ap guest_of c.in_err-discard.ensures.unchanged) in
    then-takes old mid (guest_of c.discard.new.self) c.from_residual.result c.requires.armed c.fetch.ensures.fetches full c.discard.ensures.leaves.passes (takes-err mid (guest_of c.discard.new.self) c.from_residual.result c.from_residual.ensures.0 kept)

pub returns-in_err-discard-clause-same : goal.returns-in_err-discard-clause-same
returns-in_err-discard-clause-same g c = then-same (guest_of c.args.self.now) (guest_of c.fetch.new.self) (guest_of c.discard.new.self) c.fetch.ensures.same c.discard.ensures.leaves.same

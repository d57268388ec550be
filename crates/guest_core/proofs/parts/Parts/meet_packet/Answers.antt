-- The move of the page is the packet's own, or is finished, or is waited for.
use Rattle.std.proofs.Common.{inl, sym, ap, ◌∙◌, subst}
use Rattle.std.proofs.lemmas.List.{append-nil}
use Rattle.isolation_law.specs.GuestState.{GuestState}
use Rattle.guest_course.specs.CourseView.{state_of}
use Rattle.guest_core.specs.GuestView.{guest_of}
use Rattle.guest_core.specs.MoveCalls.{HasWaiting}
use Rattle.guest_core.proofs.DoneLemmas.{run-end}
use Rattle.guest_core.proofs.HandedLemmas.{delivers-own}
use Rattle.guest_core.proofs.parts.Parts.meet_packet.Goals as goal

pub returns-then-is_own_delivery-clause-takes : goal.returns-then-is_own_delivery-clause-takes
returns-then-is_own_delivery-clause-takes c = (
  c.requires.armed,
  delivers-own (guest_of c.args.self.now) (guest_of c.end_delivery.new.self) c.args.page.0 c.requires.in_hand c.requires.page c.if-is_own_delivery.ensures.yes c.end_delivery.ensures.leaves c.in_ok-end_delivery.ensures.received,
)

pub returns-in-Finished-clause-takes : goal.returns-in-Finished-clause-takes
returns-in-Finished-clause-takes c =
    let done = c.in-Finished.ensures.finishes in
    record {
      has = record {
        not_ended = c.requires.armed.not_ended;
        goes_on = run-end (state_of c.args.self.now.course) (state_of c.finish_ready.new.self.course) c.args.page done.makes.makes.run ∙ c.requires.armed.not_ended;
        armed = c.requires.page;
        in_hand = λ none. c.requires.in_hand (sym c.finish_ready.ensures.hand ∙ none);
        lives = λ packet is. c.requires.lives packet (sym c.finish_ready.ensures.hand ∙ is);
        hands_on = inl (c.requires.in_hand, c.finish_ready.ensures.handed);
        notes = ap (λ (x : _). x.notes) c.finish_ready.ensures.notes;
      };
      done = done.done;
      other = c.if-is_own_delivery.ensures.no;
      makes = done.makes.makes;
    }

pub returns-in-Waits-clause-takes : goal.returns-in-Waits-clause-takes
returns-in-Waits-clause-takes c =
    let waits = c.in-Waits.ensures.finishes in
    let stays = waits.rests.stays in
    record {
      has = record {
        not_ended = c.requires.armed.not_ended;
        goes_on = ap (λ (s : GuestState). s.end) stays.state ∙ c.requires.armed.not_ended;
        armed = c.requires.page;
        in_hand = λ none. c.requires.in_hand (sym c.finish_ready.ensures.hand ∙ none);
        lives = λ packet is. c.requires.lives packet (sym c.finish_ready.ensures.hand ∙ is);
        hands_on = inl (c.requires.in_hand, c.finish_ready.ensures.handed);
        notes = ap (λ (x : _). x.notes) c.finish_ready.ensures.notes;
      };
      waiting = subst (λ (s : GuestState). HasWaiting s c.args.page.0 c.in-Waits.waiting) (sym stays.state) waits.waiting;
      makes = record { journal = stays.journal ∙ sym (append-nil c.args.self.now.journal.entries); run = inl stays.state };
      view = stays.view;
    }

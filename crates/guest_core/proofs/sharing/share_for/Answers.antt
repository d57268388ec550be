-- An act that neither takes nor gives a page copies it for that, or does nothing with one.
use Rattle.std.proofs.Common.{inl, refl, sym, ◌∙◌}
use Rattle.guest_course.specs.CourseView.{state_of}
use Rattle.guest_core.proofs.GivingLemmas.{gives-none}
use Rattle.guest_core.proofs.sharing.share_for.Goals as goal

pub returns-in-None-clause-shares : goal.returns-in-None-clause-shares
returns-in-None-clause-shares c =
    let s = state_of c.args.course.now in
    let at = c.acts_are_at_hand.ensures s s c.requires.left.0 c.args.vcpu.0 c.args.act c.requires.left.1 in
    record {
      none = record { holding = c.requires.holding; uses_stay = refl };
      copies = λ b q reads rests. inl (record { why = c.in_default.ensures.none b q (sym at ∙ reads); unasked = refl });
      plain = λ q length to need sends is. absurd (gives-none s c.args.vcpu.0 q length to need c.args.act (sym c.in-None.ensures.page) (sym at ∙ sends) is);
    }

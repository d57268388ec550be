-- A move that was done was none of those that a turn finishes first, so it took the page shared, and not for this step.
use Rattle.std.proofs.Common.{◌≡◌, ℕ, Some, ⊎_elim, inl, inr}
use Rattle.isolation_law.specs.GuestState.{GuestState}
use Rattle.isolation_law.specs.StepAct.{at_hand}
use Rattle.guest_course.specs.Acting.{page_used, IsOwnRead}
use Rattle.guest_course.specs.RefillCalls.{TrapsOn}
use Rattle.guest_core.specs.MoveCalls.{MeetsPage, StepIsOn}
use Rattle.guest_course.specs.CourseView.{state_of}
use Rattle.guest_core.proofs.DoneLemmas.{taken-done}
use Rattle.guest_core.proofs.parts.Parts.meet.Goals as goal

-- the step is on the page
on : (s : GuestState) (p v q : ℕ) → MeetsPage s p v q → StepIsOn s p v q
on s p v q meets = ⊎_elim (λ (r : TrapsOn s p v q). inl r) (λ (u : (page_used (at_hand s v) ≡ Some q) × (IsOwnRead s v q → ⊥)). inr u.0) meets

pub returns-in-Waits-clause-turns : goal.returns-in-Waits-clause-turns
returns-in-Waits-clause-turns c =
    let s = state_of c.args.self.now.course in
    let stays = c.in-Waits.ensures.finishes in
    record { rest = c.requires.rest; step = on s c.args.processor.0 c.args.vcpu.0 c.args.page.0 c.requires.meets; waiting = stays.waiting; rests = stays.rests }

pub returns-in-Finished-clause-turns : goal.returns-in-Finished-clause-turns
returns-in-Finished-clause-turns c =
    let s = state_of c.args.self.now.course in
    let q = c.args.page.0 in
    let finishes = c.in-Finished.ensures.finishes in
    inr (record {
      rest = c.requires.rest;
      meets = c.requires.meets;
      taken = taken-done s q finishes.done (λ m is none. c.ready_pages_are_taken.ensures s.pages q m c.requires.rest.finished is none);
      makes = finishes.makes;
    })

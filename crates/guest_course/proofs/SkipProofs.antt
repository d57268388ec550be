-- A move that isn't begun is its row, and keeps what holds of a guest.
use Rattle.std.proofs.Common.{◌≡◌, ℕ, ◌<◌, [], ◌∷◌, ◌++◌, None, length, map, set, sym, ap, ◌∙◌}
use Rattle.std.proofs.lemmas.List.{length-map, map_push}
use Rattle.private_machine.specs.Policy.{anew}
use Rattle.page_policy.specs.Pages.{misses_of, AreCounters}
use Rattle.isolation_law.specs.Causes.{IsCause}
use Rattle.isolation_law.specs.Dues.{without_due}
use Rattle.isolation_law.specs.Phases.{GoesOnOrLingers}
use Rattle.isolation_law.specs.SkipRow.{Skips, SkipAsked, asker}
use Rattle.guest_course.specs.declared.course.Course.{Course}
use Rattle.guest_course.specs.declared.skips.SkipEntry.{SkipEntry}
use Rattle.guest_course.specs.SkipView.{wanting, cause_of, skip_of}
use Rattle.guest_course.specs.CourseView.{surroundings, due_of, state_of}
use Rattle.guest_course.specs.CourseRules.{AllStand}
use Rattle.guest_course.specs.Rebacking.{Rebacked}

-- what it makes of a guest's parts
pub record Passed (c d : Course) (e : SkipEntry) : Type 0 where
  pub same : d ≡ record c { skips = d.skips; counters = d.counters; due = d.due }
  pub skips : d.skips.items ≡ c.skips.items ++ e ∷ []
  pub counters : d.counters ≡ set c.counters e.wish.page.0 (anew (misses_of e.wish.page.0 c.counters))
  pub counted : (pages nodes : ℕ) → AreCounters pages nodes c.counters → AreCounters pages nodes d.counters
  pub long : length d.due.items ≡ length c.due.items
  pub dues : map due_of d.due.items ≡ map (without_due e.wish.page.0) (map due_of c.due.items)

pub skips-row : (c d : Course) (e : SkipEntry) → GoesOnOrLingers (state_of c) → (c.ended ≡ None → e.wish.page.0 < length c.pmap.pages)
    → SkipAsked (state_of c) e.by (wanting e.wish) → IsCause (state_of c) (asker e.by) (wanting e.wish) (cause_of e.cause) → Passed c d e → Skips (state_of c) (length c.skips.items) (state_of d)
skips-row c d e phase lt asked caused f = record {
  phase = phase;
  entry = skip_of e;
  in_range = lt;
  asked = asked;
  caused = caused;
  next = sym (length-map c.skips.items skip_of);
  after = ap state_of f.same ∙ (λ i. record (state_of c) {
    skips = (ap (map skip_of) f.skips ∙ map_push skip_of c.skips.items e) i;
    misses = f.counters i;
    due = f.dues i;
  });
}

pub passed-rebacked : (c d : Course) (e : SkipEntry) → AllStand (surroundings c.around) 0 c.places.items → Passed c d e → Rebacked c d
passed-rebacked c d e all f =
    let places : d.places ≡ c.places = ap (λ (y : Course). y.places) f.same in
    record {
      vcpus = ap (λ (y : Course). y.vcpus) f.same;
      blocks = ap (λ (y : Course). y.blocks) f.same;
      devs = ap (λ (y : Course). y.devs) f.same;
      around = ap (λ (y : Course). y.around) f.same;
      counted = f.counted;
      ended = ap (λ (y : Course). y.ended) f.same;
      hand = ap (λ (y : Course). y.hand) f.same;
      dead = ap (λ (y : Course). y.dead) f.same;
      sent_from = ap (λ (y : Course). y.sent_from) f.same;
      seconds = ap (λ (y : Course). length y.seconds.items) f.same;
      places = ap (λ (y : Course). length y.places.items) f.same;
      due = f.long;
      long = ap (λ (y : Course). length y.pmap.pages) f.same;
      stands = rw places all;
    }

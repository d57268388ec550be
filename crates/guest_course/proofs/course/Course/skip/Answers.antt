-- The entry is noted; the page's counters and mark start anew, and nothing is due of it.
use Rattle.std.proofs.Common.{length, map, sym, ap, ◌∙◌}
use Rattle.base_words.specs.declared.events.Event.TheVariants.{Skip}
use Rattle.isolation_law.specs.Dues.{without_due}
use Rattle.isolation_law.specs.GuestState.{processor}
use Rattle.isolation_law.specs.SkipRow.{Skips}
use Rattle.guest_course.specs.declared.course.Course.{Course}
use Rattle.guest_course.specs.CourseView.{due_of, state_of}
use Rattle.guest_course.proofs.RebackLemmas.{sound-rebacked, well, is-well}
use Rattle.guest_course.proofs.SkipProofs.{Passed, skips-row, passed-rebacked}
use Rattle.guest_course.proofs.course.Course.skip.Goals as goal

passed : (c : goal.After-clear_dues) → Passed c.args.self.now c.clear_dues.new.self c.args.entry
passed c =
    let old = c.args.self.now in
    let new = c.clear_dues.new.self in
    let same = c.clear_dues.ensures.same in
    let anew = c.restart.ensures.same in
    let skips = ap (λ (x : Course). x.skips) same ∙ ap (λ (x : Course). x.skips) anew in
    record {
      same = same ∙ ap (λ (x : Course). record x { due = new.due }) anew ∙ (λ i. record old { skips = sym skips i; counters = sym (ap (λ (x : Course). x.counters) same) i; due = new.due });
      skips = ap (λ (x : Course). x.skips.items) same ∙ ap (λ (x : Course). x.skips.items) anew ∙ c.push_reserved.ensures.items;
      counters = ap (λ (x : Course). x.counters) same ∙ c.restart.ensures.anew;
      counted = λ pages nodes is. rw (ap (λ (x : Course). x.counters) same) (c.restart.ensures.counted pages nodes is);
      long = c.clear_dues.ensures.long ∙ ap (λ (x : Course). length x.due.items) anew;
      dues = c.clear_dues.ensures.dues ∙ ap (λ (x : Course). map (without_due c.args.entry.wish.page.0) (map due_of x.due.items)) anew;
    }

row : (c : goal.After-clear_dues) → Skips (state_of c.args.self.now) (length c.args.self.now.skips.items) (state_of c.clear_dues.new.self)
row c = skips-row c.args.self.now c.clear_dues.new.self c.args.entry c.requires.phase c.requires.page c.requires.asked c.requires.caused (passed c)

pub returns-clause-skips : goal.returns-clause-skips
unfolding row
returns-clause-skips c = row c

pub returns-clause-sound : goal.returns-clause-sound
unfolding passed row
returns-clause-sound c =
    let old = c.args.self.now in
    let new = c.clear_dues.new.self in
    let sound = c.requires.sound in
    sound-rebacked old new sound (passed-rebacked old new c.args.entry sound.places (passed c))
    (λ r u is. sound.loaded r u (sym (ap (λ (x : Course). (processor (state_of x) r).loaded) (passed c).same) ∙ is))
    (λ on. well c.row_keeps.ensures.coherent c.row_keeps.ensures.uses_live (state_of old) (state_of new) (Skip (length old.skips.items)) (is-well (sound.going (sym (ap (λ (x : Course). x.ended) (passed c).same) ∙ on))) (row c) on)

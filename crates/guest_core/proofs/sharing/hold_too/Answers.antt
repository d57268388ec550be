-- The frame joins those that the holder has; a refusal leaves them.
use Rattle.std.proofs.Common.{refl, ap, arith}
use Rattle.frame_words.specs.declared.view.View.{View}
use Rattle.pmap_table.specs.Frames.{shared_copy_of}
use Rattle.isolation_law.specs.CellUse.{held, used_frames}
use Rattle.guest_course.specs.CourseView.{state_of}
use Rattle.guest_core.proofs.CopyLemmas.{copies-held, same-holds}
use Rattle.guest_core.proofs.CountedCopies.{counted-uses}
use Rattle.guest_core.proofs.SharedLemmas.{copy-shared}
use Rattle.guest_core.proofs.sharing.hold_too.Goals as goal

pub count_frame-requires-clause-used : goal.count_frame-requires-clause-used
count_frame-requires-clause-used c =
    let s = state_of c.args.course.now in
    (s, used_frames s, refl, omega (arith, c.frames_are_few.ensures), counted-uses s c.args.uses.now c.requires.used)

pub returns-in-Shared-clause-holds : goal.returns-in-Shared-clause-holds
returns-in-Shared-clause-holds c =
    let s = state_of c.args.course.now in
    let copy = shared_copy_of c.args.frame.now in
    let shares = c.in-Shared.ensures.answer in
    record {
      held_too = copy-shared s.around (held s) copy c.args.holder.now.view c.share.new.holder.view c.requires.within c.requires.at_home shares.same (ap (λ (x : View). x.holds) shares.after) (copies-held s c.args.holder.now.view c.requires.holding);
      counted_too = c.count_frame.ensures s (used_frames s) copy refl refl (counted-uses s c.args.uses.now c.requires.used);
    }

pub returns-in-Gone-clause-none : goal.returns-in-Gone-clause-none
returns-in-Gone-clause-none c =
    record { holding = same-holds (state_of c.args.course.now) c.args.holder.now.view c.share.new.holder.view (ap (λ (x : View). x.holds) c.in-Gone.ensures.tail.after) c.requires.holding; uses_stay = refl }

pub returns-in-Many-clause-none : goal.returns-in-Many-clause-none
returns-in-Many-clause-none c =
    record { holding = same-holds (state_of c.args.course.now) c.args.holder.now.view c.share.new.holder.view (ap (λ (x : View). x.holds) c.in-Many.ensures.tail.after) c.requires.holding; uses_stay = refl }

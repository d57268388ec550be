-- The begin is its row, and the guest is as sound as before.
use Rattle.std.proofs.Common.{Some, sym, ap, ◌∙◌}
use Rattle.base_words.specs.declared.events.Event.TheVariants.{Begin}
use Rattle.base_words.specs.declared.moves.By.{By}
use Rattle.base_words.specs.declared.moves.MoveKind.TheVariants.{TakeShared}
use Rattle.pmap_table.specs.Frames.{shared_copy_of}
use Rattle.isolation_law.specs.GuestState.{GuestState, processor}
use Rattle.isolation_law.specs.MoveRows.{Asks, Begins}
use Rattle.isolation_law.specs.Phases.{all_halted}
use Rattle.guest_course.specs.CourseView.{purpose, state_of}
use Rattle.guest_course.specs.MoveCalls.{home_wish}
use Rattle.guest_course.proofs.MoveProofs.{takes-row}
use Rattle.guest_course.proofs.RebackLemmas.{sound-rebacked, well, is-well}
use Rattle.guest_course.proofs.StepProofs.{goes-on}
use Rattle.guest_course.proofs.course.Course.begin_taking.Goals as goal

pub open-requires-clause-has : goal.open-requires-clause-has
open-requires-clause-has c = record { is_page = c.requires.may.is_page; counted = (c.requires.sound.going c.requires.may.goes_on.not_ended).counted }

row : (c : goal.After-open) (by : By) → Asks (state_of c.args.self.now) by (home_wish (state_of c.args.self.now) c.args.page.0 TakeShared) (Some (purpose c.args.operation))
    → Begins (state_of c.args.self.now) c.args.page.0 TakeShared (state_of c.args.self.now).around.home by (state_of c.open.new.self)
row c = takes-row c.args.self.now c.open.new.self c.args.page.0 (shared_copy_of c.args.target) (purpose c.args.operation) c.requires.may c.open.ensures.opened

pub returns-clause-begins : goal.returns-clause-begins
unfolding row
returns-clause-begins c = row c

pub returns-clause-sound : goal.returns-clause-sound
unfolding row
returns-clause-sound c =
    let old = c.args.self.now in
    let new = c.open.new.self in
    let sound = c.requires.sound in
    let by = c.requires.asked.0 in
    sound-rebacked old new sound c.open.ensures.rebacked
    (λ r u is. sound.loaded r u (sym (ap (λ (s : GuestState). (processor s r).loaded) c.open.ensures.opened) ∙ is))
    (λ on. well c.row_keeps.ensures.coherent c.row_keeps.ensures.uses_live (state_of old) (state_of new) (Begin c.args.page TakeShared old.around.home by) (is-well (sound.going c.requires.may.goes_on.not_ended)) (row c by c.requires.asked.1) on)

pub returns-clause-goes_on : goal.returns-clause-goes_on
returns-clause-goes_on c =
    goes-on c.args.self.now c.open.new.self (ap (λ l. all_halted l.items) c.open.ensures.rebacked.vcpus) c.open.ensures.rebacked.ended c.requires.may.goes_on

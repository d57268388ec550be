-- The begin is its row, whoever asks, and the guest is as sound as before.
use Rattle.std.proofs.Common.{◌≡◌, None, refl, sym, ap, ◌∙◌}
use Rattle.base_words.specs.declared.events.Event.TheVariants.{Begin}
use Rattle.base_words.specs.declared.moves.By.{By}
use Rattle.private_machine.specs.Backing.{Breaks, Collapses}
use Rattle.pmap_table.specs.Frames.{copy_of}
use Rattle.isolation_law.specs.GuestState.{GuestState, processor}
use Rattle.isolation_law.specs.MoveRows.{Asks, Begins, with_begun}
use Rattle.guest_course.specs.CourseView.{state_of}
use Rattle.guest_course.specs.MoveCalls.{home_wish}
use Rattle.guest_course.proofs.NeededProofs.{begins-asked, is-break, is-collapse, is-there, takes-last, rebacked-spared}
use Rattle.guest_course.proofs.RebackLemmas.{sound-rebacked, well, is-well}
use Rattle.guest_course.proofs.LiveLemmas.{last-used}
use Rattle.guest_course.proofs.course.Course.begin_asked.Goals as goal

-- a break of a shared page, with the last spare
broken : (c : goal.After-open) → state_of c.open.new.self ≡ with_begun (state_of c.args.self.now) c.args.page.0 (Breaks (copy_of c.take_spare-spare.result)) None c.take_spare-spare.new.self.spares
broken c =
    let s = state_of c.args.self.now in
    let pages = c.take_spare-spare.ensures.pages in
    let rest = c.take_spare-spare.new.self.spares in
    c.open.ensures.opened
    ∙ (λ i. with_begun (record s { pages = pages i; spares = rest }) c.args.page.0 (Breaks (copy_of c.take_spare-spare.result)) None rest)

break-row : (c : goal.After-open) (by : By) → Asks (state_of c.args.self.now) by (home_wish (state_of c.args.self.now) c.args.page.0 c.args.kind) None
    → Begins (state_of c.args.self.now) c.args.page.0 c.args.kind (state_of c.args.self.now).around.home by (state_of c.open.new.self)
break-row c by asked =
    let s = state_of c.args.self.now in
    let n = c.requires.needs in
    let q = c.args.page.0 in
    let copy = copy_of c.take_spare-spare.result in
    begins-asked s (state_of c.open.new.self) by q c.args.kind (Breaks copy) c.take_spare-spare.new.self.spares c.requires.goes_on n (is-there s q c.args.kind n.needs)
    (is-break s q c.args.kind n.needs (sym c.is_shared.ensures ∙ c.if-is_shared.true)) (takes-last s.spares c.take_spare-spare.new.self.spares copy c.take_spare-spare.ensures.last)
    (c.goes_on_alive.ensures.used s copy (c.requires.sound.going c.requires.goes_on.not_ended).live c.requires.goes_on (last-used s c.take_spare-spare.new.self.spares copy c.take_spare-spare.ensures.last)) (broken c) asked

pub returns-then-is_shared-clause-begins : goal.returns-then-is_shared-clause-begins
unfolding break-row
returns-then-is_shared-clause-begins c = break-row c

pub returns-then-is_shared-clause-sound : goal.returns-then-is_shared-clause-sound
unfolding break-row broken
returns-then-is_shared-clause-sound c =
    let old = c.args.self.now in
    let new = c.open.new.self in
    let sound = c.requires.sound in
    let by = c.requires.asked.0 in
    sound-rebacked old new sound (rebacked-spared old (record old { pmap = c.take_spare-spare.new.self }) new refl c.take_spare-spare.ensures.pages c.open.ensures.rebacked)
    (λ r u is. sound.loaded r u (sym (ap (λ (s : GuestState). (processor s r).loaded) (broken c)) ∙ is))
    (λ on. well c.row_keeps.ensures.coherent c.row_keeps.ensures.uses_live (state_of old) (state_of new) (Begin c.args.page c.args.kind old.around.home by) (is-well (sound.going c.requires.goes_on.not_ended)) (break-row c by c.requires.asked.1) on)

-- a collapse of a page with replicas
collapse-row : (c : goal.After-open-else-is_shared) (by : By) → Asks (state_of c.args.self.now) by (home_wish (state_of c.args.self.now) c.args.page.0 c.args.kind) None
    → Begins (state_of c.args.self.now) c.args.page.0 c.args.kind (state_of c.args.self.now).around.home by (state_of c.open-else-is_shared.new.self)
collapse-row c by asked =
    let s = state_of c.args.self.now in
    let n = c.requires.needs in
    let q = c.args.page.0 in
    begins-asked s (state_of c.open-else-is_shared.new.self) by q c.args.kind Collapses s.spares c.requires.goes_on n (is-there s q c.args.kind n.needs)
    (is-collapse s q c.args.kind n.needs (sym c.is_shared.ensures ∙ c.if-is_shared.false)) refl tt c.open-else-is_shared.ensures.opened asked

pub returns-else-is_shared-clause-begins : goal.returns-else-is_shared-clause-begins
unfolding collapse-row
returns-else-is_shared-clause-begins c = collapse-row c

pub returns-else-is_shared-clause-sound : goal.returns-else-is_shared-clause-sound
unfolding collapse-row
returns-else-is_shared-clause-sound c =
    let old = c.args.self.now in
    let new = c.open-else-is_shared.new.self in
    let sound = c.requires.sound in
    let by = c.requires.asked.0 in
    sound-rebacked old new sound c.open-else-is_shared.ensures.rebacked
    (λ r u is. sound.loaded r u (sym (ap (λ (s : GuestState). (processor s r).loaded) c.open-else-is_shared.ensures.opened) ∙ is))
    (λ on. well c.row_keeps.ensures.coherent c.row_keeps.ensures.uses_live (state_of old) (state_of new) (Begin c.args.page c.args.kind old.around.home by) (is-well (sound.going c.requires.goes_on.not_ended)) (collapse-row c by c.requires.asked.1) on)

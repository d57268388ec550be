-- Nothing is due any more of pages that moved, every frame is given up, and no frame is counted any more.
use Rattle.std.proofs.Common.{◌≡◌, List, [], length, map, sym, ap, ◌∙◌, subst, arith}
use Rattle.cell_depend.specs.Counters.{UsesState}
use Rattle.pmap_table.specs.GivingUp.{held}
use Rattle.guest_course.specs.CourseView.{surroundings, state_of, due_of}
use Rattle.guest_course.specs.EndCalls.{DropsDues, GaveUp}
use Rattle.guest_course.specs.declared.course.Course.{Course}
use Rattle.std.specs.Prelude.{count_by}
use Rattle.private_machine.specs.Backing.{Page}
use Rattle.pmap_table.specs.PageMap.{is_moving}
use Rattle.isolation_law.specs.Parts.{Processor}
use Rattle.guest_core.specs.GuestView.{is_loaded, loaded_count, open_count}
use Rattle.guest_core.specs.Holding.{HoldsCopies}
use Rattle.guest_core.specs.Using.{AreUses}
use Rattle.guest_core.proofs.CopyLemmas.{copies-held}
use Rattle.guest_core.proofs.UsingProofs.{uses-end}
use Rattle.guest_core.proofs.releasing.close.Goals as goal

gave-up : (c m d : Course) → DropsDues c m → d.pmap.pages ≡ [] → d.pmap.spares ≡ [] → ◌≡◌ {A = Course} d (record m { pmap = d.pmap }) → GaveUp c d
gave-up c m d drops pages spares rest =
    let due = ap (λ (x : Course). x.due) rest in
    record {
      pages = pages;
      spares = spares;
      same = rest ∙ ap (λ (x : Course). record x { pmap = d.pmap }) drops.same ∙ (λ i. record c { pmap = d.pmap; due = sym due i });
      long = ap (λ (x : Course). length x.due.items) rest ∙ drops.long;
      dues = ap (λ (x : Course). map due_of x.due.items) rest ∙ drops.dues;
    }

pub release_all-requires-clause-holding : goal.release_all-requires-clause-holding
release_all-requires-clause-holding c =
    let v = c.args.holder.now.view in
    subst (λ (x : Course). HoldsCopies (surroundings x.around) (held x.pmap) v) (sym c.drop_dues.ensures.same) (copies-held (state_of c.args.course.now) v c.requires.holding)

pub returns-clause-due : goal.returns-clause-due
returns-clause-due c =
    let old = c.args.course.now in
    let r = c.release_all.ensures in
    let gave = gave-up old c.drop_dues.new.self c.release_all.new.course c.drop_dues.ensures r.pages r.spares r.rest in
    let same = c.end.ensures.same in
    let processors : (state_of c.end.new.self).processors ≡ (state_of old).processors = ap (λ (x : Course). (state_of x).processors) same ∙ ap (λ (x : Course). (state_of x).processors) gave.same in
    let none : open_count (state_of c.end.new.self) ≡ 0 = ap (λ (l : List Page). count_by is_moving l) (ap (λ (x : Course). x.pmap.pages) same ∙ gave.pages) in
    let loaded : loaded_count (state_of c.end.new.self) ≡ loaded_count (state_of old) = ap (λ (l : List Processor). count_by is_loaded l) processors in
    omega (arith, none, loaded)

pub returns-clause-state : goal.returns-clause-state
returns-clause-state c =
    let r = c.release_all.ensures in
    c.end.ensures.state c.args.course.now (gave-up c.args.course.now c.drop_dues.new.self c.release_all.new.course c.drop_dues.ensures r.pages r.spares r.rest)

pub returns-clause-ends : goal.returns-clause-ends
returns-clause-ends c = λ may.
    let r = c.release_all.ensures in
    c.end.ensures.ends c.args.course.now may (gave-up c.args.course.now c.drop_dues.new.self c.release_all.new.course c.drop_dues.ensures r.pages r.spares r.rest)

pub returns-clause-sound : goal.returns-clause-sound
returns-clause-sound c =
    let r = c.release_all.ensures in
    c.end.ensures.sound c.args.course.now c.requires.sound (gave-up c.args.course.now c.drop_dues.new.self c.release_all.new.course c.drop_dues.ensures r.pages r.spares r.rest)

pub let_go-requires : goal.let_go-requires
let_go-requires c = omega (arith, c.requires.room)

pub returns-clause-used : goal.returns-clause-used
returns-clause-used c =
    let t = state_of c.end.new.self in
    let old = c.args.course.now in
    let r = c.release_all.ensures in
    let gave = gave-up old c.drop_dues.new.self c.release_all.new.course c.drop_dues.ensures r.pages r.spares r.rest in
    let same = c.end.ensures.same in
    subst (λ (u : UsesState). AreUses t u) (sym c.drop_frames.ensures)
    (uses-end (state_of old) t c.args.uses.now c.all_frames_given_back.ensures
    (ap (λ (x : Course). (state_of x).around) same ∙ ap (λ (x : Course). (state_of x).around) gave.same)
    (ap (λ (x : Course). (state_of x).processors) same ∙ ap (λ (x : Course). (state_of x).processors) gave.same)
    (ap (λ (x : Course). x.pmap.pages) same ∙ gave.pages) (ap (λ (x : Course). x.pmap.spares) same ∙ gave.spares) c.requires.used)

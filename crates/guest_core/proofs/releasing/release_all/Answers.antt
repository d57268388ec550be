-- A frame that goes was held, and is given back with its loan; when none is left, nothing is held.
use Rattle.std.proofs.Common.{◌≡◌, List, sym, ap, ◌∙◌, subst}
use Rattle.node_frames.specs.Layout.{layout_of}
use Rattle.node_frames.specs.Places.{FitsShape}
use Rattle.private_machine.specs.Backing.{Copy}
use Rattle.pmap_table.specs.GivingUp.{held}
use Rattle.pmap_table.specs.PageMap.{PageMap}
use Rattle.guest_course.specs.CourseView.{surroundings}
use Rattle.guest_course.specs.declared.course.Course.{Course}
use Rattle.guest_course.specs.declared.site.Around.{Around}
use Rattle.isolation_law.specs.Surroundings.{home_cell}
use Rattle.guest_core.specs.Holding.{FitsAround, HoldsCopies}
use Rattle.guest_core.proofs.HoldingLemmas.{no-frame, no-loan, nothing-held}
use Rattle.guest_core.proofs.ShapeLemmas.{shape-fits}
use Rattle.guest_core.proofs.ReleaseLemmas.{last-within, last-held, last-loan, last-goes, home-is}
use Rattle.guest_core.proofs.releasing.release_all.Goals as goal

pub release-requires-clause-fits : goal.release-requires-clause-fits
release-requires-clause-fits c =
    let around : c.loop-frame.course.around ≡ c.args.course.now.around = ap (λ (x : Course). x.around) c.loop-frame.invariant.0 in
    subst (λ (a : Around). FitsShape c.args.table.now (layout_of a.site.shape)) (sym around) (shape-fits c.args.table.now c.args.course.now.around c.requires.fits)

pub release-requires-clause-within : goal.release-requires-clause-within
release-requires-clause-within c =
    let m = c.loop-frame.course in
    let around : m.around ≡ c.args.course.now.around = ap (λ (x : Course). x.around) c.loop-frame.invariant.0 in
    let fits = subst (λ (a : Around). FitsAround c.args.table.now (surroundings a)) (sym around) c.requires.fits in
    last-within c.args.table.now m.around c.in-Some.frame.0 (held m.pmap) (held c.give_up.new.self) c.loop-frame.holder.view fits c.loop-frame.invariant.1 c.in-Some.ensures.last

pub release-requires-clause-holds : goal.release-requires-clause-holds
release-requires-clause-holds c =
    let m = c.loop-frame.course in
    last-held m.around c.in-Some.frame.0 (held m.pmap) (held c.give_up.new.self) c.loop-frame.holder.view c.loop-frame.invariant.1 c.in-Some.ensures.last

pub release-requires-clause-loan : goal.release-requires-clause-loan
release-requires-clause-loan c = λ outside.
    let m = c.loop-frame.course in
    let around : m.around ≡ c.args.course.now.around = ap (λ (x : Course). x.around) c.loop-frame.invariant.0 in
    let fits = subst (λ (a : Around). FitsAround c.args.table.now (surroundings a)) (sym around) c.requires.fits in
    let home = home-is c.args.course.now.around c.home_cell-home.result c.home_cell-home.ensures ∙ ap (λ (a : Around). home_cell (surroundings a)) (sym around) in
    last-loan c.args.table.now m.around c.in-Some.frame.0 c.home_cell-home.result.0 (held m.pmap) (held c.give_up.new.self) c.loop-frame.holder.view fits home c.loop-frame.invariant.1 c.in-Some.ensures.last outside

pub loop-frame-preserved : goal.loop-frame-preserved
loop-frame-preserved c =
    let m = c.loop-frame.course in
    let around : m.around ≡ c.args.course.now.around = ap (λ (x : Course). x.around) c.loop-frame.invariant.0 in
    let fits = subst (λ (a : Around). FitsAround c.args.table.now (surroundings a)) (sym around) c.requires.fits in
    let home = home-is c.args.course.now.around c.home_cell-home.result c.home_cell-home.ensures ∙ ap (λ (a : Around). home_cell (surroundings a)) (sym around) in (
      ap (λ (x : Course). record x { pmap = c.give_up.new.self }) c.loop-frame.invariant.0,
      last-goes c.args.table.now m.around c.in-Some.frame.0 c.home_cell-home.result.0 (held m.pmap) (held c.give_up.new.self) c.loop-frame.holder.view c.release.new.holder.view fits home c.loop-frame.invariant.1 c.in-Some.ensures.last c.release.ensures.released,
      c.release.ensures.same ∙ c.loop-frame.invariant.2,
      c.give_up.ensures.room ∙ c.loop-frame.invariant.3,
    )

pub returns-clause-pages : goal.returns-clause-pages
returns-clause-pages c =
    let m = c.loop-frame.course.pmap in
    ap (λ (m : PageMap). m.pages) c.in_default.ensures.same ∙ (nothing-held m.pages m.spares (c.give_up.ensures.none.0 c.in_default.is)).0

pub returns-clause-spares : goal.returns-clause-spares
returns-clause-spares c =
    let m = c.loop-frame.course.pmap in
    ap (λ (m : PageMap). m.spares) c.in_default.ensures.same ∙ (nothing-held m.pages m.spares (c.give_up.ensures.none.0 c.in_default.is)).1

pub returns-clause-rest : goal.returns-clause-rest
returns-clause-rest c = ap (λ (x : Course). record x { pmap = c.give_up.new.self }) c.loop-frame.invariant.0

pub returns-clause-given_back : goal.returns-clause-given_back
returns-clause-given_back c =
    let w = surroundings c.loop-frame.course.around in
    let v = c.loop-frame.holder.view in
    let h = subst (λ (l : List Copy). HoldsCopies w l v) (c.give_up.ensures.none.0 c.in_default.is) c.loop-frame.invariant.1 in
    c.no_frame_and_no_loan_is_no_hold.ensures v (no-frame w v h) (no-loan w v h)

pub returns-clause-begins : goal.returns-clause-begins
returns-clause-begins c = c.give_up.ensures.room ∙ c.loop-frame.invariant.3

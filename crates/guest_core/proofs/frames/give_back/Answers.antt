-- The last of the frames that are left was held, and is given back with its loan; when none is left, the guest's own are held.
use Rattle.std.proofs.Common.{◌≡◌, ℕ, List, [], ◌∷◌, ◌++◌, refl, sym, ap, ◌∙◌, subst}
use Rattle.std.proofs.lemmas.List.{append-nil}
use Rattle.frame_words.specs.declared.view.View.{View}
use Rattle.private_machine.specs.Backing.{Copy}
use Rattle.pmap_table.specs.Ending.{numbers_of}
use Rattle.pmap_table.specs.GivingUp.{LosesLast}
use Rattle.isolation_law.specs.CellUse.{held}
use Rattle.isolation_law.specs.GuestState.{GuestState}
use Rattle.guest_course.specs.CourseView.{state_of}
use Rattle.guest_core.specs.Frames.{ToGiveBack}
use Rattle.guest_core.specs.Holding.{IsHolding, HoldsCopies}
use Rattle.guest_core.proofs.CopyLemmas.{held-copies}
use Rattle.guest_core.proofs.ShapeLemmas.{shape-fits}
use Rattle.guest_core.proofs.ReleaseLemmas.{EndsWith, ends-with, loses-behind, last-within, last-held, last-loan, last-goes, home-is}
use Rattle.guest_core.proofs.frames.give_back.Goals as goal

-- the copy that goes, and those that are left
goes : (s : GuestState) (freed left : List ℕ) (frame : ℕ) (v : View) → freed ≡ left ++ frame ∷ [] → (g : ToGiveBack s freed v) → EndsWith frame left g.copies
goes s freed left frame v is g = ends-with g.copies left frame (sym is ∙ g.numbers)

-- it is the last that the holder has
last-of : (s : GuestState) (freed left : List ℕ) (frame : ℕ) (v : View) (is : freed ≡ left ++ frame ∷ []) (g : ToGiveBack s freed v)
    → LosesLast frame (held s ++ g.copies) (held s ++ (goes s freed left frame v is g).rest)
last-of s freed left frame v is g = let e = goes s freed left frame v is g in loses-behind frame (held s) g.copies e.rest e.gone

-- none is left
none-left : (copies : List Copy) → [] ≡ numbers_of copies → copies ≡ []
none-left [] e = refl
none-left (c ∷ copies) e = absurd cc

all-given : (s : GuestState) (v : View) (freed : List ℕ) → freed ≡ [] → ToGiveBack s freed v → IsHolding s v
all-given s v freed none g =
    let empty = none-left g.copies (sym none ∙ g.numbers) in
    held-copies s v (subst (λ (l : List Copy). HoldsCopies s.around l v) (ap (λ (l : List Copy). held s ++ l) empty ∙ append-nil (held s)) g.held_too)

pub release-requires-clause-fits : goal.release-requires-clause-fits
release-requires-clause-fits c = shape-fits c.args.table.now c.args.course.now.around c.requires.fits

pub release-requires-clause-within : goal.release-requires-clause-within
release-requires-clause-within c =
    let s = state_of c.args.course.now in
    let l = c.loop-frame in
    let gone = last-of s l.freed c.pop.new.self c.in-Some.frame.0 l.holder.view c.in-Some.ensures.last l.invariant.0 in
    last-within c.args.table.now c.args.course.now.around c.in-Some.frame.0 _ _ l.holder.view c.requires.fits l.invariant.0.held_too gone

pub release-requires-clause-holds : goal.release-requires-clause-holds
release-requires-clause-holds c =
    let s = state_of c.args.course.now in
    let l = c.loop-frame in
    let gone = last-of s l.freed c.pop.new.self c.in-Some.frame.0 l.holder.view c.in-Some.ensures.last l.invariant.0 in
    last-held c.args.course.now.around c.in-Some.frame.0 _ _ l.holder.view l.invariant.0.held_too gone

pub release-requires-clause-loan : goal.release-requires-clause-loan
release-requires-clause-loan c = λ outside.
    let s = state_of c.args.course.now in
    let l = c.loop-frame in
    let home = home-is c.args.course.now.around c.home_cell-home.result c.home_cell-home.ensures in
    let gone = last-of s l.freed c.pop.new.self c.in-Some.frame.0 l.holder.view c.in-Some.ensures.last l.invariant.0 in
    last-loan c.args.table.now c.args.course.now.around c.in-Some.frame.0 c.home_cell-home.result.0 _ _ l.holder.view c.requires.fits home l.invariant.0.held_too gone outside

pub loop-frame-preserved : goal.loop-frame-preserved
loop-frame-preserved c =
    let s = state_of c.args.course.now in
    let l = c.loop-frame in
    let g = l.invariant.0 in
    let home = home-is c.args.course.now.around c.home_cell-home.result c.home_cell-home.ensures in
    let e = goes s l.freed c.pop.new.self c.in-Some.frame.0 l.holder.view c.in-Some.ensures.last g in
    let gone = last-of s l.freed c.pop.new.self c.in-Some.frame.0 l.holder.view c.in-Some.ensures.last g in (
      record {
        copies = e.rest;
        numbers = e.numbers_are;
        held_too = last-goes c.args.table.now c.args.course.now.around c.in-Some.frame.0 c.home_cell-home.result.0 _ _ l.holder.view c.release.new.holder.view c.requires.fits home g.held_too gone c.release.ensures.released;
      },
      c.release.ensures.same ∙ l.invariant.1,
    )

pub returns-clause-holding : goal.returns-clause-holding
returns-clause-holding c = all-given (state_of c.args.course.now) c.loop-frame.holder.view c.loop-frame.freed c.in_default.ensures.none c.loop-frame.invariant.0

-- It is that of one copy, or there is none.
use Rattle.std.proofs.Common.{◌≡◌, ◌*◌, ◌<◌, ◌++◌, ◌∷◌, [], inl, ℕ, List, Some, option_map, refl, sym, ap, ◌∙◌, subst}
use Rattle.std.proofs.lemmas.List.{append-nil}
use Rattle.std.specs.Option.{option_to_list}
use Rattle.std.specs.Prelude.{Option}
use Rattle.base_words.specs.Membership.{Has}
use Rattle.base_words.specs.declared.ids.FrameNo.{FrameNo}
use Rattle.private_machine.specs.Backing.{Copy}
use Rattle.isolation_law.specs.CellUse.{used_frames}
use Rattle.guest_course.specs.CourseView.{state_of}
use Rattle.pmap_table.specs.Ending.{numbers_of}
use Rattle.cell_depend.specs.Counters.{UsesState}
use Rattle.isolation_law.specs.GuestState.{GuestState}
use Rattle.guest_core.specs.Using.{CountsCopies}
use Rattle.guest_core.proofs.CountedCopies.{uses-counted}
use Rattle.guest_core.proofs.ShapeLemmas.{nodes-of}
use Rattle.guest_core.proofs.UntiedLemmas.{IsOne, one-copy, no-copy}
use Rattle.guest_core.proofs.frames.count_untied.Goals as goal

-- the copy of the frame that was told
one : (untied : Option FrameNo) (frame : FrameNo) (cs : List Copy) → untied ≡ Some frame → option_to_list (option_map (λ (n : FrameNo). n.0) untied) ≡ numbers_of cs → IsOne frame cs
one untied frame cs is numbers = one-copy frame cs (sym (ap (λ (o : Option FrameNo). option_to_list (option_map (λ (n : FrameNo). n.0) o)) is) ∙ numbers)

counted : (s : GuestState) (frame : FrameNo) (cs : List Copy) (uses : UsesState) → (o : IsOne frame cs) → CountsCopies s (used_frames s ++ cs) uses → CountsCopies s (used_frames s ++ o.copy ∷ []) uses
counted s frame cs uses o k = subst (λ (l : List Copy). CountsCopies s (used_frames s ++ l) uses) o.alone k

pub count_frame_no_more-requires-clause-within : goal.count_frame_no_more-requires-clause-within
count_frame_no_more-requires-clause-within c =
    let around = c.args.course.now.around in
    let o = one c.args.untied c.in-Some.frame c.requires.copies c.in-Some.is c.requires.numbers in
    let there : Has c.requires.copies o.copy = subst (λ (l : List Copy). Has l o.copy) (sym o.alone) (inl refl) in
    subst (λ (n : ℕ). n < around.site.shape.nodes * around.site.shape.frames) o.frame_is
    (subst (λ (n : ℕ). o.copy.frame < n * around.site.shape.frames) (nodes-of around) (c.requires.within o.copy there))

pub count_frame_no_more-requires-clause-used : goal.count_frame_no_more-requires-clause-used
count_frame_no_more-requires-clause-used c =
    let s = state_of c.args.course.now in
    let o = one c.args.untied c.in-Some.frame c.requires.copies c.in-Some.is c.requires.numbers in
    (s, used_frames s, o.copy, refl, o.frame_is, counted s c.in-Some.frame c.requires.copies c.args.uses.now o c.requires.counted_too)

pub returns-in-Some : goal.returns-in-Some
returns-in-Some c =
    let s = state_of c.args.course.now in
    let o = one c.args.untied c.in-Some.frame c.requires.copies c.in-Some.is c.requires.numbers in
    uses-counted s c.count_frame_no_more.new.uses (c.count_frame_no_more.ensures s (used_frames s) o.copy refl o.frame_is (counted s c.in-Some.frame c.requires.copies c.args.uses.now o c.requires.counted_too))

pub returns-in-None : goal.returns-in-None
returns-in-None c =
    let s = state_of c.args.course.now in
    let u = c.requires in
    let none = no-copy u.copies (sym (ap (λ (o : Option FrameNo). option_to_list (option_map (λ (n : FrameNo). n.0) o)) c.in-None.is) ∙ u.numbers) in
    uses-counted s c.args.uses.now (subst (λ (l : List Copy). CountsCopies s l c.args.uses.now) (ap (λ (l : List Copy). used_frames s ++ l) none ∙ append-nil (used_frames s)) u.counted_too)

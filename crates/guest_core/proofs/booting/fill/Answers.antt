-- Each page is in the next frame.
use Rattle.std.proofs.Common.{rules, ◌≡◌, ◌*◌, ◌<◌, ◌^◌, ◌++◌, List, [], ◌∷◌, length, get_or, sym, ap, ◌∙◌, subst, arith, append_assoc}
use Rattle.base_words.specs.declared.frame.Frame.{Frame}
use Rattle.guest_course.specs.BootCalls.{AreWhole}
use Rattle.guest_core.proofs.BootLemmas.{filled-none, filled-more, length-filled, whole-more, frame-there}
use Rattle.guest_core.proofs.booting.fill.Goals as goal

pub loop-page-init : goal.loop-page-init
loop-page-init c = (
  tt,
  tt,
  c.in_ok-full.ensures.items ∙ sym (filled-none c.args.frames.now),
  subst AreWhole (sym c.in_ok-full.ensures.items) tt,
  c.into_iter-page-iterator.ensures.into_iter_gives.0 ∙ c.into_vec-page-items.ensures,
)

pub bounds-as_slice-len : goal.bounds-as_slice-len
bounds-as_slice-len c =
    let i = c.loop-page.invariant in
    let there = frame-there c.args.frames.now c.args.pages c.loop-page.yielded _ _ c.in-Some.page c.requires i.4 c.in-Some.ensures.steps.0 in
    let full = ap length i.2 in
    let count = length-filled c.args.frames.now c.loop-page.yielded (omega (arith, there)) in
    let number : c.len-in-loop-page.result ≡ length c.loop-page.full.items = search rules in
    let all = ap length c.as_slice.ensures in
    omega (arith, there, full, count, number, all)

pub offset_bounds-as_slice-len : goal.offset_bounds-as_slice-len
offset_bounds-as_slice-len c =
    let lt = bounds-as_slice-len c in
    let most = c.as_slice.type_inv.1 in
    let small : c.len-in-loop-page.result * 16 < 2 ^ 64 = omega (arith, lt, most) in
    search rules

pub loop-page-preserved : goal.loop-page-preserved
loop-page-preserved c =
    let i = c.loop-page.invariant in
    let fs : List Frame = c.args.frames.now in
    let page = c.in-Some.page in
    let frame : Frame = c.index-as_slice-len.result in
    let next = c.in-Some.ensures.steps.0 in
    let there = frame-there fs c.args.pages c.loop-page.yielded _ _ page c.requires i.4 next in
    let full = ap length i.2 in
    let count = length-filled fs c.loop-page.yielded (omega (arith, there)) in
    let number : c.len-in-loop-page.result ≡ length c.loop-page.full.items = search rules in
    let place : c.len-in-loop-page.result ≡ length c.loop-page.yielded = omega (arith, full, count, number) in
    let at : frame ≡ get_or fs (length c.loop-page.yielded) frame = c.index-as_slice-len.is ∙ (λ k. get_or (c.as_slice.ensures k) (place k) frame) in
    let whole : length page.value ≡ 4096 = ap length (sym c.deref.ensures) ∙ c.bytes-whole.ensures.whole in (
      tt,
      tt,
      c.in_ok-push.ensures.items ∙ (λ k. i.2 k ++ record (at k) { page = page } ∷ []) ∙ sym (filled-more fs c.loop-page.yielded page frame there),
      subst AreWhole (sym c.in_ok-push.ensures.items) (whole-more c.loop-page.full.items _ i.3 whole),
      append_assoc c.loop-page.yielded (page ∷ []) _ ∙ ap (λ l. c.loop-page.yielded ++ l) (sym next) ∙ i.4,
    )

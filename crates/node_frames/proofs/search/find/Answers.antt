use Rattle.std.proofs.Common.{◌≡◌, ℕ, ◌<◌, List, length, get_or, Some, ap, subst, ◌∙◌, sym, arith, length-set}
use Rattle.std.specs.Prelude.{slice_get}
use Rattle.std.proofs.lemmas.Option.{slice_get-get_or}
use Rattle.base_words.specs.declared.ids.NodeId.{NodeId}
use Rattle.node_frames.specs.Searches.{FindsNone}
use Rattle.node_frames.specs.declared.answers.Shown.{Shown}
use Rattle.node_frames.proofs.FindLemmas.{searched_more, finds_none, finds}
use Rattle.node_frames.proofs.search.find.Goals as goal
use Rattle.node_frames.specs.Layout.{layout_of}

abbrev none : NodeId
none = record { 0 = 0 }

-- the node of this turn stands at its place in the order
here : (items order : List NodeId) (place : ℕ) → items ≡ order → place < length items → slice_get order place ≡ Some (get_or items place none)
here items order place is within = ap (λ (l : List NodeId). slice_get l place) (sym is) ∙ slice_get-get_or items place none within

pub returns-in-Ok-clause-found : goal.returns-in-Ok-clause-found
returns-in-Ok-clause-found c =
    let i = c.loop-place.invariant in
    let node : NodeId = get_or c.as_slice-node-items.result.now c.loop-place.place none in
    finds c.holds_and_looks_add_up.ensures.holds c.holds_and_looks_add_up.ensures.looks c.holds_and_looks_add_up.ensures.tell _ _ _ _ _ _ _ _ _ node _ _ i.3 (here _ _ _ c.as_slice-node-items.ensures c.loop-place-test.true) i.1 c.in-Ok.ensures.sought

pub loop-place-preserved : goal.loop-place-preserved
loop-place-preserved c =
    let i = c.loop-place.invariant in
    let node : NodeId = get_or c.as_slice-node-items.result.now c.loop-place.place none in
    let within : c.loop-place.place < length c.loop-place.shown.items = let t = c.loop-place-test.true in let e = ap (λ (l : List NodeId). length l) c.as_slice-node-items.ensures in let s = i.1 in omega arith in (
      c.seek.ensures.same ∙ i.0,
      length-set c.loop-place.shown.items c.loop-place.place c.in-Err.entry ∙ i.1,
      i.2,
      searched_more c.holds_and_looks_add_up.ensures.looks c.holds_and_looks_add_up.ensures.tell _ _ _ _ _ _ _ _ _ node _ i.3 (here _ _ _ c.as_slice-node-items.ensures c.loop-place-test.true) within c.in-Err.ensures.sought,
    )

pub returns-clause-refused : goal.returns-clause-refused
returns-clause-refused c =
    let i = c.loop-place.invariant in
    let all : c.loop-place.place ≡ length c.args.order.now = let f = c.loop-place-test.false in let t = c.loop-place.auto.place-end in let e = ap (λ (l : List NodeId). length l) c.as_slice-node-items.ensures in omega arith in
    subst (λ (l : List Shown). FindsNone (layout_of c.args.shape.now) c.args.table.now.terms.lends c.args.home.0 c.args.order.now l c.args.holder.now.view c.loop-place.holder.view) (sym c.from_vec.ensures) (finds_none _ _ _ _ _ _ _ _ i.1 all i.3)

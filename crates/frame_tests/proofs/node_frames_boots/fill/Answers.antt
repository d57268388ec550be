use Rattle.std.proofs.Common.{◌≡◌, ℕ, List, ap, subst, sym, ◌∙◌, arith}
use Rattle.base_words.specs.declared.ids.NodeId.{NodeId}
use Rattle.node_frames.specs.Places.{AreNodes}
use Rattle.node_frames.specs.Layout.{Layout, layout_of}
use Rattle.frame_words.specs.declared.view.View.{View}
use Rattle.node_frames.specs.declared.answers.Shown.{Shown}
use Rattle.node_frames.specs.declared.answers.FindFault.{FindFault}
use Rattle.node_frames.specs.declared.answers.FindFault.TheVariants.{NoFrame}
use Rattle.node_frames.specs.Searches.{FindsNone, RefusedBy}
use Rattle.node_frames.specs.Left.{left_of, after_search}
use Rattle.frame_tests.proofs.node_frames_boots.fill.Goals as goal

pub find-requires-clause-nodes : goal.find-requires-clause-nodes
find-requires-clause-nodes c = subst (AreNodes (layout_of c.args.shape.now)) (sym c.requires.order) (c.boot_order_has_each_node.ensures.nodes (layout_of c.args.shape.now) c.args.start c.requires.start)

-- a search that answers NoFrame
refused : (layout : Layout) (lends : List ℕ) (home : ℕ) (order : List NodeId) (fault : FindFault) (list : List Shown) (v w : View) → fault ≡ NoFrame list → RefusedBy layout lends home order fault v w → FindsNone layout lends home order list v w
refused layout lends home order fault list v w is r = subst (λ (f : FindFault). RefusedBy layout lends home order f v w) is r

pub returns-in-Err-NoFrame-clause-most : goal.returns-in-Err-NoFrame-clause-most
returns-in-Err-NoFrame-clause-most c =
    let i = c.loop-taken.invariant in
    let f = refused (layout_of c.args.shape.now) c.args.table.now.terms.lends c.args.home.0 c.args.order.now _ c.in-Err-NoFrame.field-0-0 _ _ c.in-Err-NoFrame.field-0-is c.in-Err-NoFrame.ensures.refused in
    let none = c.has_counts_the_frames_to_come.ensures.nothing (layout_of c.args.shape.now) c.args.table.now.terms.lends c.args.home.0 c.args.start c.in-Err-NoFrame.field-0-0 _ _ c.requires.start i.1
    (subst (λ (l : List NodeId). FindsNone (layout_of c.args.shape.now) c.args.table.now.terms.lends c.args.home.0 l c.in-Err-NoFrame.field-0-0 c.loop-taken.holder.view c.find.new.holder.view) c.requires.order f) in
    let before = i.3 in
    let more = c.loop-taken-test.true in omega arith

pub returns-in-Err-NoFrame-clause-left : goal.returns-in-Err-NoFrame-clause-left
returns-in-Err-NoFrame-clause-left c =
    let i = c.loop-taken.invariant in
    let f = refused (layout_of c.args.shape.now) c.args.table.now.terms.lends c.args.home.0 c.args.order.now _ c.in-Err-NoFrame.field-0-0 _ _ c.in-Err-NoFrame.field-0-is c.in-Err-NoFrame.ensures.refused in
    (c.alone_finds_next.ensures.none (layout_of c.args.shape.now) c.args.table.now.terms.lends c.args.home.0 c.args.order.now c.in-Err-NoFrame.field-0-0 c.loop-taken.holder.view c.find.new.holder.view i.1 f).after ∙ i.2

pub loop-taken-preserved : goal.loop-taken-preserved
loop-taken-preserved c =
    let i = c.loop-taken.invariant in
    let nodes : AreNodes (layout_of c.args.shape.now) c.args.order.now = subst (AreNodes (layout_of c.args.shape.now)) (sym c.requires.order) (c.boot_order_has_each_node.ensures.nodes (layout_of c.args.shape.now) c.args.start c.requires.start) in
    let n = c.alone_finds_next.ensures.next c.args.table.now (layout_of c.args.shape.now) c.args.home.0 c.args.order.now _ _ _ _ c.requires.fits nodes i.1 c.in-Ok.ensures.found in
    let fewer = c.has_counts_the_frames_to_come.ensures.falls c.args.table.now (layout_of c.args.shape.now) c.args.home.0 c.args.order.now _ _ _ _ c.requires.fits nodes i.1 c.in-Ok.ensures.found in (
      c.find.ensures.same ∙ i.0,
      n.alone,
      n.chained ∙ ap (after_search (layout_of c.args.shape.now) c.args.home.0 c.args.order.now) i.2 ∙ sym (c.searches_take_what_is_left.ensures.more (layout_of c.args.shape.now) c.args.home.0 c.args.order.now c.loop-taken.taken (left_of (layout_of c.args.shape.now) c.args.table.now.terms.lends c.args.holder.now.view)),
      omega arith,
    )

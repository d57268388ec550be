-- The frame that was found is the machine's, the guest hadn't it, and it is held and counted beside the guest's own.
use Rattle.std.proofs.Common.{◌≡◌, ℕ, ◌/◌, ◌<◌, List, Some, length, refl, sym, ap, subst, arith}
use Rattle.std.proofs.lemmas.Bool.{eq-eqb}
use Rattle.std.specs.Prelude.{Result, Ok, Err, OnErr, slice_get, slice_index_or}
use Rattle.base_words.specs.declared.frame.Frame.{Frame}
use Rattle.base_words.specs.declared.ids.CellId.{CellId}
use Rattle.base_words.specs.declared.ids.NodeId.{NodeId}
use Rattle.frame_words.specs.Holders.{MadeTable}
use Rattle.frame_words.specs.declared.view.View.{View}
use Rattle.node_frames.specs.Layout.{Layout, layout_of}
use Rattle.node_frames.specs.Places.{AreNodes}
use Rattle.node_frames.specs.Searches.{Finds, RefusedBy}
use Rattle.node_frames.specs.declared.answers.FindFault.{FindFault}
use Rattle.node_frames.specs.declared.answers.FindFault.TheVariants.{Memory, NoFrame}
use Rattle.pmap_table.specs.Frames.{copy_of}
use Rattle.isolation_law.specs.CellUse.{held, used_frames}
use Rattle.isolation_law.specs.Surroundings.{home_cell}
use Rattle.guest_course.specs.CourseView.{surroundings, state_of}
use Rattle.guest_course.specs.declared.site.Around.{Around}
use Rattle.guest_core.specs.Holding.{FitsAround}
use Rattle.guest_core.proofs.CopyLemmas.{copies-held, same-holds}
use Rattle.guest_core.proofs.FoundLemmas.{IsFound, frame-below, found-first, found-foreign, copy-comes}
use Rattle.guest_core.proofs.GivingLemmas.{the-layout}
use Rattle.guest_core.proofs.SharedLemmas.{node-of}
use Rattle.guest_core.proofs.CountedCopies.{counted-uses}
use Rattle.guest_core.proofs.ShapeLemmas.{cell-low, nodes-of, shape-fits, shape-of}
use Rattle.guest_core.proofs.ReleaseLemmas.{home-is}
use Rattle.guest_core.proofs.frames.take.Goals as goal

-- a refusal leaves the holds
none-taken : (layout : Layout) (lends : List ℕ) (home : ℕ) (order : List NodeId) (fault : FindFault) (v u : View) → RefusedBy layout lends home order fault v u → u.holds ≡ v.holds
none-taken layout lends home order Memory v u is = ap (λ (x : View). x.holds) is
none-taken layout lends home order (NoFrame list) v u f = ap (λ (x : View). x.holds) f.after

at-err : {T E P : Type 0} (r : Result T E) → P → OnErr r P
at-err (Ok x) p = tt
at-err (Err e) p = p

pub find-requires-clause-fits : goal.find-requires-clause-fits
find-requires-clause-fits c = shape-fits c.args.table.now c.args.course.now.around c.requires.fits

pub returns-in_err-frame-clause-none : goal.returns-in_err-frame-clause-none
returns-in_err-frame-clause-none c =
    let s = state_of c.args.course.now in
    let same = none-taken _ _ _ _ _ c.args.holder.now.view c.find.new.holder.view c.in_err-frame.ensures.refused in
    at-err c.from_residual.result (record { holding = same-holds s c.args.holder.now.view c.find.new.holder.view same c.requires.holding; uses_stay = refl })

-- the node of a frame that was found is one of the machine's
there : (a : Around) (order : List NodeId) (place : ℕ) (node : NodeId) → AreNodes (layout_of a.site.shape) order → slice_get order place ≡ Some node → node.0 < length (surroundings a).nodes
there a order place node nodes at = subst (λ (n : ℕ). node.0 < n) (sym (nodes-of a)) (node-of (λ (n : NodeId). n.0 < a.site.shape.nodes) order place node nodes at)

-- what a search tells of it
abbrev at-home : (table : MadeTable) (a : Around) (home : CellId) (order : List NodeId) (frame : Frame) (v u : View) → home ≡ slice_index_or a.site.shape.cells a.home.0 (record { 0 = 0 })
    → Finds (layout_of a.site.shape) table.terms.lends home.0 order frame.number.0 frame.generation v u → Finds (layout_of a.site.shape) table.terms.lends (home_cell (surroundings a)) order frame.number.0 frame.generation v u
at-home table a home order frame v u is f = subst (λ (h : ℕ). Finds (layout_of a.site.shape) table.terms.lends h order frame.number.0 frame.generation v u) (home-is a home is) f

is-found : (table : MadeTable) (a : Around) (order : List NodeId) (frame : Frame) (v u : View) → FitsAround table (surroundings a) → AreNodes (layout_of a.site.shape) order
    → (f : Finds (layout_of a.site.shape) table.terms.lends (home_cell (surroundings a)) order frame.number.0 frame.generation v u) → IsFound (layout_of a.site.shape) (surroundings a) f.node.0 (copy_of frame) v u
is-found table a order frame v u fits nodes f =
    found-first (layout_of a.site.shape) table.terms.lends (surroundings a) order (copy_of frame) v u (shape-of a) f (cell-low table a f.node.0 fits (there a order f.place f.node nodes f.ordered))

pub count_frame-requires-clause-within : goal.count_frame-requires-clause-within
count_frame-requires-clause-within c =
    let a = c.args.course.now.around in
    let shape = a.site.shape in
    let f = at-home c.args.table.now a c.home_cell-home.result c.args.order.now c.in_ok-frame.frame c.args.holder.now.view c.find.new.holder.view c.home_cell-home.ensures c.in_ok-frame.ensures.found in
    let lt = there a c.args.order.now f.place f.node c.requires.nodes f.ordered in
    frame-below c.in_ok-frame.frame.number.0 shape.frames f.node.0 shape.nodes shape.has_frames f.on (subst (λ (n : ℕ). f.node.0 < n) (nodes-of a) lt)

pub count_frame-requires-clause-used : goal.count_frame-requires-clause-used
count_frame-requires-clause-used c =
    let s = state_of c.args.course.now in
    (s, used_frames s, refl, omega (arith, c.frames_are_few.ensures), counted-uses s c.args.uses.now c.requires.used)

pub returns-clause-taken : goal.returns-clause-taken
returns-clause-taken c =
    let a = c.args.course.now.around in
    let s = state_of c.args.course.now in
    let shape = a.site.shape in
    let order = c.args.order.now in
    let v = c.args.holder.now.view in
    let u = c.find.new.holder.view in
    let copy = copy_of c.in_ok-frame.frame in
    let f = at-home c.args.table.now a c.home_cell-home.result order c.in_ok-frame.frame v u c.home_cell-home.ensures c.in_ok-frame.ensures.found in
    let found = is-found c.args.table.now a order c.in_ok-frame.frame v u c.requires.fits c.requires.nodes f in
    record {
      finds = record { layout = layout_of shape; lies = the-layout a; finds = f };
      foreign = found-foreign s copy v c.requires.holding found.unheld;
      place = f.place;
      node = f.node;
      ordered = f.ordered;
      lies = eq-eqb (copy.frame / shape.frames) f.node.0 found.on;
      held_too = copy-comes (layout_of shape) s.around f.node.0 (held s) copy v u (shape-of a) shape.has_frames (there a order f.place f.node c.requires.nodes f.ordered) found (copies-held s v c.requires.holding);
      counted_too = c.count_frame.ensures s (used_frames s) copy refl refl (counted-uses s c.args.uses.now c.requires.used);
    }

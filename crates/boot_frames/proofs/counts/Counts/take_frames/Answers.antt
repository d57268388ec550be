use Rattle.std.proofs.Common.{◌≡◌, ◌<◌, ℕ, true, Option, Some, None, List, arith, ◌∙◌, subst}
use Rattle.base_words.specs.declared.ids.NodeId.{NodeId}
use Rattle.node_frames.specs.Layout.{Layout, IsLayout, layout_of}
use Rattle.node_frames.specs.Left.{Left, first_giving, node_gives, taking}
use Rattle.boot_frames.specs.Claims.{home_of, order_of, has_of}
use Rattle.boot_frames.specs.Counts.{counted_left}
use Rattle.boot_frames.specs.declared.claims.Taker.{Taker}
use Rattle.boot_frames.proofs.PagesLemmas.{taker-some, takes, frame_there, frame-more, frame_none}
use Rattle.boot_frames.proofs.counts.Counts.take_frames.Goals as goal

-- what a search gives, in the words of the taker
given : (layout : Layout) (taker : Taker) (home : ℕ) (order : List NodeId) (now : Left) (o : Option NodeId) → home ≡ home_of layout taker → order ≡ order_of layout taker
    → o ≡ first_giving layout home now order → o ≡ first_giving layout (home_of layout taker) now (order_of layout taker)
given layout taker home order now o at is e = e ∙ (λ i. first_giving layout (at i) now (is i))

pub returns-in-None-clause-most : goal.returns-in-None-clause-most
returns-in-None-clause-most c =
    let layout = layout_of c.args.shape.now in
    let taker = c.args.claim.taker in
    let left = counted_left layout c.args.self.now in
    let now = counted_left layout c.loop-taken.self in
    let i = c.loop-taken.invariant in
    let lies : IsLayout layout = record { few_nodes = c.args.shape.now.few_nodes; has_frames = c.args.shape.now.has_frames; has_cells = c.args.shape.now.has_cells } in
    let all = takes c.searches_take_what_is_left.ensures.guest c.searches_take_what_is_left.ensures.cache layout taker left lies c.requires.cells c.requires.numbered c.requires.home in
    let found = given layout taker c.home-home.result.0 c.args.order.now now None c.home-home.ensures c.requires.order c.in-None.ensures.first in
    let none = frame_none layout taker left now c.loop-taken.taken all i.1 i.0 found in
    let less = c.loop-taken-test.true in omega arith

pub loop-taken-preserved : goal.loop-taken-preserved
loop-taken-preserved c =
    let layout = layout_of c.args.shape.now in
    let taker = c.args.claim.taker in
    let left = counted_left layout c.args.self.now in
    let now = counted_left layout c.loop-taken.self in
    let node = c.in-Some.node in
    let i = c.loop-taken.invariant in
    let lies : IsLayout layout = record { few_nodes = c.args.shape.now.few_nodes; has_frames = c.args.shape.now.has_frames; has_cells = c.args.shape.now.has_cells } in
    let all = takes c.searches_take_what_is_left.ensures.guest c.searches_take_what_is_left.ensures.cache layout taker left lies c.requires.cells c.requires.numbered c.requires.home in
    let cells = c.args.shape.now.has_cells in
    let within = c.in-Some.ensures.node in
    let low = c.requires.cells node.0 (record { 0 = 0 }) (omega arith) in
    let found = given layout taker c.home-home.result.0 c.args.order.now now (Some node) c.home-home.ensures c.requires.order c.in-Some.ensures.first in
    let gives = subst (λ (h : ℕ). node_gives layout h now node.0 ≡ true) c.home-home.ensures c.in-Some.ensures.gives in
    let some = taker-some layout taker now node within low gives found in (
      c.take.ensures ∙ (λ k. taking layout (c.home-home.ensures k) now node.0) ∙ frame-more layout taker left now c.loop-taken.taken node i.0 found,
      frame_there layout taker left c.loop-taken.taken all i.1 (subst (λ (l : Left). 0 < has_of layout taker l) i.0 some),
    )

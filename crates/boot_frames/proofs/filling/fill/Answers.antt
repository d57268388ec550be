use Rattle.std.proofs.Common.{◌≡◌, ◌+◌, List, [], ◌∷◌, ◌++◌, rules, sym, ◌∙◌, subst, arith}
use Rattle.std.specs.Prelude.{Option}
use Rattle.base_words.specs.declared.frame.Frame.{Frame}
use Rattle.node_frames.specs.Left.{left_of}
use Rattle.boot_frames.specs.Claims.{home_of, order_of}
use Rattle.boot_frames.specs.Takings.{TakesNext, NextBy, Fills}
use Rattle.boot_frames.proofs.FillLemmas.{Filling, filling_none, filling_more, filled}
use Rattle.boot_frames.proofs.filling.fill.Goals as goal
use Rattle.node_frames.specs.Layout.{layout_of}

pub loop-taken-init : goal.loop-taken-init
loop-taken-init c =
    let none : c.new-frames.result.items ≡ [] = c.new-frames.ensures.items in (
      (λ i. c.args.holder.now.table),
      subst (λ (l : List Frame). Filling c.args.table.now (layout_of c.args.shape.now) c.args.claim.taker 0 l c.args.holder.now.view c.args.holder.now.view) (sym none)
          (filling_none c.args.table.now (layout_of c.args.shape.now) c.args.claim.taker c.args.holder.now.view c.requires.only),
    )

pub loop-taken-preserved : goal.loop-taken-preserved
loop-taken-preserved c =
    let table = c.args.table.now in
    let layout = (layout_of c.args.shape.now) in
    let taker = c.args.claim.taker in
    let range = c.a_nodes_frames_are_a_range.ensures in
    let f = c.in-Some.frame in
    let k = c.loop-taken.taken in
    let found : TakesNext table layout taker f c.loop-taken.holder.view c.next_frame.new.holder.view =
    subst (λ (o : Option Frame). NextBy table layout taker c.loop-taken.holder.view o c.next_frame.new.holder.view) c.in-Some.is c.in_ok-frame.ensures.next in
    let grown : c.push.new.self.items ≡ c.loop-taken.frames.items ++ f ∷ [] = search rules in (
      c.next_frame.ensures.same ∙ c.loop-taken.invariant.0,
      subst (λ (l : List Frame). Filling table layout taker (k + 1) l c.args.holder.now.view c.next_frame.new.holder.view) (sym grown)
          (filling_more table layout taker k c.loop-taken.frames.items f _ _ _
          (range.on layout, λ node frame on. range.place layout node frame c.requires.fits.lies.has_frames on, λ node frame within on. range.within table layout node frame c.requires.fits within on)
          (c.searches_take_what_is_left.ensures.more layout (home_of layout taker) (order_of layout taker) k (left_of layout table.terms.lends c.args.holder.now.view))
          c.loop-taken.invariant.1 found),
    )

pub returns-clause-filled : goal.returns-clause-filled
returns-clause-filled c =
    let all : c.loop-taken.taken ≡ c.args.claim.frames = let t = c.loop-taken-test.false in let e = c.loop-taken.auto.taken-end in omega arith in
    subst (λ (l : List Frame). Fills c.args.table.now (layout_of c.args.shape.now) c.args.claim l c.args.holder.now.view c.loop-taken.holder.view) (sym c.from_vec.ensures)
    (filled c.args.table.now (layout_of c.args.shape.now) c.args.claim c.loop-taken.taken c.loop-taken.frames.items _ _ all (omega arith) c.loop-taken.invariant.1)

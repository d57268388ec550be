use Rattle.std.proofs.Common.{◌≡◌, ℕ, ◌+◌, List, subst}
use Rattle.node_frames.specs.Layout.{Layout, layout_of}
use Rattle.base_words.specs.declared.ids.CellId.{CellId}
use Rattle.base_words.specs.declared.ids.GuestId.{GuestId}
use Rattle.base_words.specs.declared.ids.NodeId.{NodeId}
use Rattle.frame_words.specs.declared.view.View.{View}
use Rattle.node_frames.specs.Places.{AreNodes, cell_of_node}
use Rattle.node_frames.specs.BootOrder.{boot_nodes}
use Rattle.node_frames.specs.Left.{left_of}
use Rattle.node_frames.specs.Searches.{Finds, FindsNone, RefusedBy}
use Rattle.node_frames.specs.declared.answers.Shown.{Shown}
use Rattle.node_frames.specs.declared.answers.FindFault.{FindFault}
use Rattle.node_frames.specs.declared.answers.FindFault.TheVariants.{NoFrame}
use Rattle.boot_frames.specs.Claims.{home_of, order_of, has_of, IsAtHome}
use Rattle.boot_frames.specs.declared.claims.Taker.{Taker}
use Rattle.boot_frames.specs.declared.claims.Taker.TheVariants.{Cache, Pages}
use Rattle.boot_frames.proofs.filling.next_frame.Goals as goal

-- what holds of each cell and of each guest holds of whoever takes
by_taker : (P : Taker → Type 0) → ((cell : CellId) → P (Cache cell)) → ((guest : GuestId) (node : NodeId) → P (Pages guest node)) → (taker : Taker) → P taker
by_taker P cache pages (Cache cell) = cache cell
by_taker P cache pages (Pages guest node) = pages guest node

-- a search in the words of the taker
of_taker : (layout : Layout) (taker : Taker) (home : ℕ) (order : List NodeId) (P : ℕ → List NodeId → Type 0) → order ≡ order_of layout taker → home ≡ home_of layout taker → P home order → P (home_of layout taker) (order_of layout taker)
of_taker layout taker home order P is at p = subst (λ h. P h (order_of layout taker)) at (subst (P home) is p)

-- a search that answers NoFrame
refused : (layout : Layout) (lends : List ℕ) (home : ℕ) (order : List NodeId) (fault : FindFault) (list : List Shown) (v w : View) → fault ≡ NoFrame list → RefusedBy layout lends home order fault v w → FindsNone layout lends home order list v w
refused layout lends home order fault list v w is r = subst (λ (f : FindFault). RefusedBy layout lends home order f v w) is r

pub returns-in-Ok-clause-next : goal.returns-in-Ok-clause-next
returns-in-Ok-clause-next c =
    let table = c.args.table.now in
    let lends = table.terms.lends in
    let layout = (layout_of c.args.shape.now) in
    let taker = c.args.taker in
    let home = home_of layout taker in
    let order = order_of layout taker in
    let f = c.in-Ok.frame in
    let v = c.args.holder.now.view in
    let w = c.find.new.holder.view in
    let nodes = subst (AreNodes layout) c.requires.order c.requires.nodes in
    let found = of_taker layout taker c.args.home.0 c.args.order.now (λ h o. Finds layout lends h o f.number.0 f.generation v w) c.requires.order c.requires.home c.in-Ok.ensures.found in record {
      next = c.alone_finds_next.ensures.next table layout home order f.number.0 f.generation v w c.requires.fits nodes c.requires.alone found;
      lowest = c.alone_gains_the_lowest.ensures.lowest table layout home order f.number.0 f.generation v w c.requires.fits nodes c.requires.alone found;
      gains = c.alone_gains_the_lowest.ensures.gains table layout home order f.number.0 f.generation v w c.requires.fits nodes c.requires.alone found;
      fewer = by_taker
          (λ (t : Taker). AreNodes layout (order_of layout t) → Finds layout lends (home_of layout t) (order_of layout t) f.number.0 f.generation v w → has_of layout t (left_of layout lends w) + 1 ≡ has_of layout t (left_of layout lends v))
          (λ cell all there. c.cell_frames_count_the_cache.ensures.falls table layout cell.0 f.number.0 f.generation v w c.requires.fits c.requires.alone there)
          (λ guest node all there. c.has_counts_the_frames_to_come.ensures.falls table layout (cell_of_node layout node.0) (boot_nodes layout node) f.number.0 f.generation v w c.requires.fits all c.requires.alone there)
          taker nodes found;
      zeroed = c.in-Ok.ensures.zeroed;
    }

pub returns-clause-next : goal.returns-clause-next
returns-clause-next c =
    let layout = (layout_of c.args.shape.now) in
    let lends = c.args.table.now.terms.lends in
    let taker = c.args.taker in
    let list = c.in-Err-NoFrame.field-0-0 in
    let v = c.args.holder.now.view in
    let w = c.find.new.holder.view in
    let r = refused layout lends c.args.home.0 c.args.order.now _ list _ _ c.in-Err-NoFrame.field-0-is c.in-Err-NoFrame.ensures.refused in
    let none = of_taker layout taker c.args.home.0 c.args.order.now (λ h o. FindsNone layout lends h o list v w) c.requires.order c.requires.home r in
    by_taker
    (λ (t : Taker). IsAtHome layout t → FindsNone layout lends (home_of layout t) (order_of layout t) list v w → has_of layout t (left_of layout lends v) ≡ 0)
    (λ cell home there. c.cell_frames_count_the_cache.ensures.nothing layout lends cell.0 list v w c.requires.alone there)
    (λ guest node home there. c.has_counts_the_frames_to_come.ensures.nothing layout lends (cell_of_node layout node.0) node list v w home c.requires.alone there)
    taker c.requires.at_home none

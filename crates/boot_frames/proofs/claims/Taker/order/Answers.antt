use Rattle.std.proofs.Common.{◌≡◌, List, sym, subst}
use Rattle.std.proofs.lemmas.Result.{IfOk-weaker}
use Rattle.base_words.specs.declared.ids.NodeId.{NodeId}
use Rattle.node_frames.specs.Layout.{layout_of}
use Rattle.node_frames.specs.Places.{AreNodes}
use Rattle.node_frames.specs.BootOrder.{cell_nodes}
use Rattle.boot_frames.proofs.claims.Taker.order.Goals as goal

pub returns-in-Cache-clause-nodes : goal.returns-in-Cache-clause-nodes
returns-in-Cache-clause-nodes c =
    let layout = layout_of c.args.shape.now in
    let cell = c.in-Cache.cell.0 in
    IfOk-weaker c.cell_order.result (λ (order : List NodeId). order ≡ cell_nodes layout cell) (AreNodes layout)
    (λ order is. subst (AreNodes layout) (sym is) (c.cell_frames_count_the_cache.ensures.nodes layout cell)) c.cell_order.ensures

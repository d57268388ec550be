use Rattle.std.proofs.Common.{◌≡◌, List, sym, subst, arith}
use Rattle.std.proofs.lemmas.Grind.{common_steps}
use Rattle.base_words.specs.declared.ids.NodeId.{NodeId}
use Rattle.node_frames.specs.Places.{AreNodes}
use Rattle.node_frames.specs.BootOrder.{boot_nodes}
use Rattle.node_frames.proofs.OrderLemmas.{boot_nodes-below}
use Rattle.node_frames.proofs.order.boot_order.Goals as goal
use Rattle.node_frames.specs.Layout.{layout_of}

pub returns-clause-nodes : goal.returns-clause-nodes
returns-clause-nodes c =
    let is : c.from_vec.result ≡ boot_nodes (layout_of c.args.shape.now) c.args.node = grind (arith, common_steps) in
    subst (λ (l : List NodeId). AreNodes (layout_of c.args.shape.now) l) (sym is) (boot_nodes-below (layout_of c.args.shape.now) c.args.node c.requires)

use Rattle.std.proofs.Common.{Bool, ◌∙◌, sym}
use Rattle.base_words.specs.declared.ids.NodeId.{NodeId}
use Rattle.node_frames.specs.Groups.{is_in}
use Rattle.node_frames.proofs.OrderLemmas.{takes_one, leaves_one}
use Rattle.node_frames.proofs.order.push_group.Goals as goal
use Rattle.node_frames.proofs.order.push_group.Goals.{then-is_in+in_ok-push, else-is_in}
use Rattle.node_frames.specs.Layout.{layout_of}

pub loop-number-preserved : goal.loop-number-preserved
loop-number-preserved c =
    let p : NodeId → Bool = is_in c.args.group (layout_of c.args.shape.now) c.args.home.0 in
    elim c.if-is_in.branch [
      | then-is_in+in_ok-push w ↦
          let pushed = w.in_ok-push.ensures.items in
          let more = takes_one p c.loop-number.number c.loop-number.nodes.items c.args.nodes.now.items (sym c.is_in.ensures ∙ w.if-is_in.true) c.loop-number.invariant in
          let now = w.nodes-is in cc
      | else-is_in w ↦
          let more = leaves_one p c.loop-number.number c.loop-number.nodes.items c.args.nodes.now.items (sym c.is_in.ensures ∙ w.if-is_in.false) c.loop-number.invariant in
          let now = w.nodes-is in cc
    ]

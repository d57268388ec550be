-- The nodes are those of the order whose cells live.
use Rattle.std.proofs.Common.{◌≡◌, ℕ, ◌<◌, List, length, get_or, sym, ap, ◌∙◌, subst}
use Rattle.base_words.specs.declared.ids.NodeId.{NodeId}
use Rattle.node_frames.specs.BootOrder.{boot_nodes}
use Rattle.node_frames.specs.Layout.{layout_of}
use Rattle.guest_course.specs.CourseView.{state_of}
use Rattle.guest_core.specs.Sharing.{lives_on, spare_nodes}
use Rattle.guest_core.proofs.GivingLemmas.{nodes-kept}
use Rattle.std.specs.Prelude.{filter}
use Rattle.std.proofs.lemmas.List.{take_all}
use Rattle.guest_core.proofs.sharing.spare_nodes.Goals as goal

pub returns-clause-nodes : goal.returns-clause-nodes
returns-clause-nodes c =
    let around = c.args.course.now.around in
    let s = state_of c.args.course.now in
    let layout = layout_of around.site.shape in
    let order : c.loop-node.order ≡ spare_nodes s layout = c.loop-node.invariant ∙ ap (filter (lives_on s)) (take_all c.loop-node.node-index c.as_slice-node-items.result.now c.loop-node-test.false ∙ c.as_slice-node-items.ensures ∙ c.in_ok-all.ensures.order) in
    let Below : List NodeId → Type 0 = λ l. (k : ℕ) (d : NodeId) → k < length l → (get_or l k d).0 < around.site.shape.nodes in
    subst Below (sym order) (nodes-kept (lives_on s) around.site.shape.nodes (boot_nodes layout around.home) (subst Below c.in_ok-all.ensures.order c.in_ok-all.ensures.nodes))

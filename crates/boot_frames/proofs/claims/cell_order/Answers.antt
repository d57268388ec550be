use Rattle.std.proofs.Common.{◌≡◌, ℕ, ◌+◌, ◌==◌, Bool, true, false, if◌then◌else◌, List, [], ◌∷◌, ◌++◌, sym, ap, ◌∙◌, append-nil, add-one, Vec, Global}
use Rattle.std.specs.Prelude.{filter}
use Rattle.std.proofs.lemmas.List.Elements.{filter-append}
use Rattle.base_words.specs.declared.ids.NodeId.{NodeId}
use Rattle.node_frames.specs.Layout.{layout_of}
use Rattle.node_frames.specs.Places.{cell_of_node}
use Rattle.node_frames.specs.BootOrder.{nodes_below}
use Rattle.boot_frames.proofs.claims.cell_order.Goals as goal
use Rattle.boot_frames.proofs.claims.cell_order.Goals.{then-eq+in_ok-push, else-eq}

-- one node more, by the test
node-more : (p : NodeId → Bool) (n : ℕ) (xs : List NodeId) (b : Bool) → p (record { 0 = n }) ≡ b → xs ≡ filter p (nodes_below n)
    → xs ++ (if b then record { 0 = n } ∷ [] else []) ≡ filter p (nodes_below (n + 1))
node-more p n xs b is all =
    (λ i. all i ++ (if sym is i then record { 0 = n } ∷ [] else []))
    ∙ sym (filter-append p (nodes_below n) (record { 0 = n } ∷ [])) ∙ sym (ap (λ (k : ℕ). filter p (nodes_below k)) (add-one n))

items : {v w : Vec NodeId Global} → v ≡ w → v.items ≡ w.items
items e = ap (λ (v : Vec NodeId Global). v.items) e

pub loop-number-preserved : goal.loop-number-preserved
loop-number-preserved c =
    let layout = layout_of c.args.shape.now in
    let n = c.loop-number.number in
    let p : NodeId → Bool = λ node. cell_of_node layout node.0 == c.args.cell.0 in
    elim c.if-eq.branch [
      | then-eq+in_ok-push w ↦ items w.nodes-is ∙ w.in_ok-push.ensures.items ∙ node-more p n c.loop-number.nodes.items true (sym (rw c.as_slice.ensures at c.eq.ensures) ∙ w.if-eq.true) c.loop-number.invariant
      | else-eq w ↦ items w.nodes-is ∙ sym (append-nil c.loop-number.nodes.items) ∙ node-more p n c.loop-number.nodes.items false (sym (rw c.as_slice.ensures at c.eq.ensures) ∙ w.if-eq.false) c.loop-number.invariant
    ]

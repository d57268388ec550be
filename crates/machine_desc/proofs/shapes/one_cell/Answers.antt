use Rattle.std.proofs.Common.{ℕ, [], ◌∷◌, ◌++◌, sym, ap, ◌∙◌, arith}
use Rattle.std.proofs.lemmas.List.FromFn.{map-range_with_len_more}
use Rattle.base_words.specs.declared.ids.NodeId.{NodeId}
use Rattle.machine_desc.proofs.shapes.one_cell.Goals as goal

pub loop-node-preserved : goal.loop-node-preserved
loop-node-preserved c =
    let node : ℕ → NodeId = λ n. record { 0 = n } in
    let i = c.loop-node.node in
    c.in_ok-push.ensures.ok ∙ (ap (λ ns. ns ++ node i ∷ []) c.loop-node.invariant ∙ sym (map-range_with_len_more node 0 i i (omega arith)))

use Rattle.std.proofs.Common.{get_or}
use Rattle.std.proofs.lemmas.List.{get_or_default}
use Rattle.base_words.specs.declared.ids.NodeId.{NodeId}
use Rattle.machine_desc.proofs.Plain.{one_more_checked}
use Rattle.machine_desc.proofs.names.cell_named.Goals as goal

pub loop-j-preserved : goal.loop-j-preserved
loop-j-preserved c =
    let nodes = c.args.nodes.now in
    let node : NodeId = get_or nodes c.loop-j.j (record { 0 = 0 }) in
    one_more_checked _ nodes c.loop-j.j node c.loop-j.invariant c.loop-j-test.true (get_or_default nodes c.loop-j.j _ _ c.loop-j-test.true) c.in_ok-node_named.ensures

use Rattle.node_frames.proofs.OrderLemmas.{boot_nodes-below}
use Rattle.node_frames.proofs.BootLemmas.{boot_permutes, boot_once}
use Rattle.node_frames.proofs.law.boot_order_has_each_node.Goals as goal

pub returns-clause-nodes : goal.returns-clause-nodes
returns-clause-nodes c = boot_nodes-below

pub returns-clause-permutes : goal.returns-clause-permutes
returns-clause-permutes c = boot_permutes

pub returns-clause-once : goal.returns-clause-once
returns-clause-once c = boot_once

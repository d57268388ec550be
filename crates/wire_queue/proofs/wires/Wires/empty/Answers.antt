use Rattle.wire_queue.proofs.Firsts.{all_taken}
use Rattle.wire_queue.proofs.wires.Wires.empty.Goals as goal

pub returns-clause-all : goal.returns-clause-all
returns-clause-all g c = let held = c.count.ensures.held in all_taken c.args.to.now.taken c.args.from.now.accepted held.0 c.count.result held.1 held.2

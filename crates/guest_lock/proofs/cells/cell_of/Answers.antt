use Rattle.std.specs.Vec.Iter.{into_iter_items}
use Rattle.guest_lock.proofs.GuestLemmas.{first-there}
use Rattle.guest_lock.proofs.cells.cell_of.Goals as goal

pub returns-in-Some-clause-there : goal.returns-in-Some-clause-there
returns-in-Some-clause-there g c = first-there g.N.Starts.starts g.N.Starts.board g.N.Starts.shared g.row.G c.in-Some.guest (into_iter_items c.next.new.self) (into_iter_items c.args.guests.now) c.requires c.in-Some.ensures.cases.0

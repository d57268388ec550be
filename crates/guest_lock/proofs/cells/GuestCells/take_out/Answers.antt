use Rattle.guest_lock.proofs.GuestLemmas.{below-all}
use Rattle.guest_lock.proofs.cells.GuestCells.take_out.Goals as goal

pub returns : goal.returns
returns g c = below-all g.N.Starts.starts g.N.Starts.board g.N.Starts.shared c.take_cell-8.new.guests.items c.in_ok-take_cell-8.ensures c.requires

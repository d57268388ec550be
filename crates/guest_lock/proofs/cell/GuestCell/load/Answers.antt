use Rattle.std.proofs.Common.{◌≡◌, sym, subst, None, arith}
use Rattle.shootdown.specs.Notes.{Token}
use Rattle.guest_lock.specs.Fits.{Fits}
use Rattle.guest_lock.specs.Told.{shown}
use Rattle.guest_lock.proofs.cell.GuestCell.load.Goals as goal

pub load-requires : goal.load-requires
load-requires g c =
    let same = sym c.loop.invariant in (
      omega arith,
      (
        subst (Fits g.N.Starts.starts g.N.Starts.board) same c.requires.token,
        (c.requires.vcpu, subst (λ (t : Token). shown g.row.G t ≡ None) same c.requires.free),
      ),
    )

-- Who waits is told nothing, so the ask is as it was.
use Rattle.std.proofs.Common.{◌≡◌, sym, subst, None, arith}
use Rattle.shootdown.specs.Notes.{Token}
use Rattle.guest_lock.specs.Fits.{Fits}
use Rattle.guest_lock.specs.Told.{shown}
use Rattle.guest_lock.proofs.cell.GuestCell.begin.Goals as goal

pub ask-requires : goal.ask-requires
ask-requires g c =
    let same = sym c.loop.invariant in (
      omega arith,
      (
        subst (Fits g.N.Starts.starts g.N.Starts.board) same c.requires.token,
        (c.requires.may, (subst (λ (t : Token). shown g.row.G t ≡ None) same c.requires.free, c.requires.shared)),
      ),
    )

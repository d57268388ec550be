use Rattle.std.proofs.Common.{rules, ◌≡◌, ◌+◌, ◌++◌, ◌∷◌, [], List, sym, subst}
use Rattle.guest_core.specs.GuestView.{Monitored}
use Rattle.guest_lock.specs.Guests.{GuestsBelow}
use Rattle.guest_lock.proofs.GuestLemmas.{below-more}
use Rattle.guest_lock.proofs.cells.take_cell.Goals as goal

pub returns-in_ok-push : goal.returns-in_ok-push
returns-in_ok-push g c =
    let grown : c.push.new.self.items ≡ c.args.guests.now.items ++ c.take_out.result ∷ [] = search rules in
    subst (λ (l : List Monitored). GuestsBelow g.N.Starts.starts g.N.Starts.board g.N.Starts.shared (g.row.G + 1) l) (sym grown)
    (below-more g.N.Starts.starts g.N.Starts.board g.N.Starts.shared g.row.G c.args.guests.now.items c.take_out.result c.requires.below c.take_out.ensures)

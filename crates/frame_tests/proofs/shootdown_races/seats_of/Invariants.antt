use Rattle.std.proofs.Common.{◌≡◌, All}
use Rattle.shootdown.specs.Notes.{Seat}
use Rattle.frame_tests.proofs.shootdown_races.seats_of.Given as goal

abbrev pub invariant-loop-desk : goal.invariant-loop-desk
invariant-loop-desk g l =
    (goal.iterator-loop-desk g).can_next l.desk-iterator
    × (goal.iterator-loop-desk g).is_finite l.desk-iterator
    × All (λ (s : Seat). s.board ≡ g.N.OnBoard.board) l.seats.items

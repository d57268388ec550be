use Rattle.std.proofs.Common.{◌≡◌, length, All}
use Rattle.std.specs.Vec.Iter.{into_iter_items}
use Rattle.shootdown.specs.Notes.{Seat}
use Rattle.frame_tests.proofs.shootdown_races.desks_of.Given as goal

abbrev pub invariant-loop-seat : goal.invariant-loop-seat
invariant-loop-seat g l =
    (goal.iterator-loop-seat g).can_next l.seat-iterator
    × (goal.iterator-loop-seat g).is_finite l.seat-iterator
    × (length l.desks.items ≡ length l.yielded)
    × All (λ (s : Seat). s.board ≡ g.N.OnBoard.board) (into_iter_items l.seat-iterator)

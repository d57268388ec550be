use Rattle.std.proofs.Common.{◌≡◌, ◌++◌, map, All}
use Rattle.std.specs.Vec.Iter.{into_iter_items}
use Rattle.shootdown.specs.Notes.{Seat}
use Rattle.shootdown.specs.Steps.{seat_list}
use Rattle.shootdown.proofs.closing.gather_seats.Given as goal

abbrev pub invariant-loop-seat : goal.invariant-loop-seat
invariant-loop-seat l =
    (goal.iterator-loop-seat).can_next l.seat-iterator
    × (goal.iterator-loop-seat).is_finite l.seat-iterator
    × (l.place.table_id ≡ l.initial.place.table_id)
    × (l.place.me.0.tokens ≡ l.initial.place.me.0.tokens)
    × (l.place.me.0.seats ++ map seat_list (into_iter_items l.seat-iterator) ≡ l.initial.place.me.0.seats ++ map seat_list (into_iter_items l.fn.seats))
    × All (λ (s : Seat). s.board ≡ l.word.table_id) (into_iter_items l.seat-iterator)

use Rattle.std.proofs.Common.{◌≡◌, ◌-◌, []}
use Rattle.shootdown.specs.Making.{rest_of, numbered, fresh_seat}
use Rattle.shootdown.proofs.making.cut_seats.Given as goal

abbrev pub invariant-loop-number : goal.invariant-loop-number
invariant-loop-number l =
    (l.all.table_id ≡ l.initial.all.table_id)
    × (l.all.me ≡ (rest_of 0 0 l.number (l.count - l.number), []))
    × (l.seats.items ≡ numbered (fresh_seat l.initial.all.table_id) 0 l.number)

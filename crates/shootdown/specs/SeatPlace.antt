-- A seat's place on the board, which has the seat's list and nothing else.
use Rattle.std.specs.Prelude.{◌≡◌, [], ◌∷◌}
use Rattle.shootdown.specs.Notes.{Seat}
use Rattle.shootdown.specs.Steps.{list_of, notes_in}
use Rattle.shootdown.specs.declared.seat.GuestSeat.TheInside.{Inside}

-- what contracts see
abbrev pub seat_of : Inside → Seat
seat_of a = record { board = a.place.table_id; number = a.number.0; notes = notes_in a.place.me.0.seats }

pub record IsSeatPlace (a : Inside) : Type 0 where
  pub lists : a.place.me ≡ (record { tokens = []; seats = list_of a.number.0 (notes_in a.place.me.0.seats) ∷ [] }, [])

-- A token's place on the board, which has the token's list and nothing else.
use Rattle.std.specs.Prelude.{◌≡◌, ◌<◌, [], ◌∷◌}
use Rattle.std.specs.Arc.{arc_value}
use Rattle.shootdown.specs.Notes.{Token}
use Rattle.shootdown.specs.Steps.{list_of, notes_in}
use Rattle.shootdown.specs.declared.token.ProcToken.TheInside.{Inside}

-- what contracts see
abbrev pub token_of : Inside → Token
token_of a = record { board = a.place.table_id; number = a.number.0; notes = notes_in a.place.me.0.tokens }

pub record IsTokenPlace (a : Inside) : Type 0 where
  pub own : a.place.table_id ≡ (arc_value a.board).shared.table_id
  pub wide : 0 < a.place.table_id.words
  pub lists : a.place.me ≡ (record { tokens = list_of a.number.0 (notes_in a.place.me.0.tokens) ∷ []; seats = [] }, [])

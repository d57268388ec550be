use Rattle.std.proofs.Common.{List, [], ◌∷◌}
use Rattle.atomic_table.specs.Seated.{TableId}
use Rattle.shootdown.specs.Notes.{Token}
use Rattle.frame_tests.proofs.shootdown_races.four_threads_note_with_three_guests.Given as goal

-- the board of the first token
abbrev board_in : List Token → TableId
board_in [] = record { words = 0; slots = 0; views_name = 0; atom = 0; block = 0; offset = 0; slot_names = [] }
board_in (t ∷ ts) = t.board

abbrev pub ghosts-race : goal.ghosts-race
ghosts-race g a = record { board = board_in a.tokens }

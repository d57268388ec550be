use Rattle.std.proofs.Common.{[], ◌∷◌}
use Rattle.guest_tests.proofs.guest_lock_turns.turns_are_made_under_a_lock.Given as goal

-- the run is named by its one guest's start, by the board of that guest's seat, and by what it shares
abbrev pub ghosts-try_turns : goal.ghosts-try_turns
ghosts-try_turns g a = record { starts = a.started.guest.start ∷ []; board = a.started.guest.board; shared = record { table = a.started.table; wires = a.started.wires; indexes = a.started.caches.indexes.items } }

use Rattle.std.proofs.Common.{map}
use Rattle.guest_boot.specs.Booting.{start_of}
use Rattle.run_workers.specs.Named.{board_of_tokens}
use Rattle.run_workers.proofs.running.finish.Given as goal

-- the run is named by what its guests were booted with, by its tokens' board, and by what its guests share
abbrev pub ghosts-run_named : goal.ghosts-run_named
ghosts-run_named g a = record { starts = map start_of a.guests.items; board = board_of_tokens a.tokens; shared = record { table = a.table.now; wires = a.wires.now; indexes = a.indexes.now } }

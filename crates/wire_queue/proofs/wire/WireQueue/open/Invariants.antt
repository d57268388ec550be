use Rattle.wire_queue.specs.Lines.{line_of}
use Rattle.wire_queue.proofs.wire.WireQueue.open.Given as goal

abbrev pub ghosts-open_as : goal.ghosts-open_as
ghosts-open_as a = record { line = line_of a.from.0 a.to.0 a.shape.now a.homes.now }

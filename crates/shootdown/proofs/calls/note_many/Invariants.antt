use Rattle.std.proofs.Common.{replicate}
use Rattle.shootdown.proofs.calls.note_many.Given as goal

abbrev pub ghosts-add : goal.ghosts-add
ghosts-add a = record { named = replicate a.count a.note }

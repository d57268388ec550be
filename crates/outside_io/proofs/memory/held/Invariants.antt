use Rattle.std.proofs.Common.{◌≡◌, drop}
use Rattle.outside_io.specs.Held.{told_by}
use Rattle.outside_io.proofs.memory.held.Given as goal

-- none of the files so far has the name
abbrev pub invariant-loop-file : goal.invariant-loop-file
invariant-loop-file l = told_by l.files l.name ≡ told_by (drop l.file-index l.files) l.name

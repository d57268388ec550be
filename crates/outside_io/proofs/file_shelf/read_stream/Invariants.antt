use Rattle.std.proofs.Common.{◌+◌, ◌≤◌, length}
use Rattle.std.specs.Io.KnownBytes.{Consumes}
use Rattle.outside_io.proofs.file_shelf.read_stream.Given as goal

-- what was read so far was taken from the stream, and is at most one byte past the limit
abbrev pub invariant-loop : goal.invariant-loop
invariant-loop g l = record {
  consumes : Consumes (g.F.Read.remaining l.fn.file) (g.F.Read.remaining l.file) l.bytes.items;
  few : length l.bytes.items ≤ l.most + 1;
}

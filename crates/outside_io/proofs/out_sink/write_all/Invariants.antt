use Rattle.outside_io.specs.Streams.{TakesAllBut}
use Rattle.outside_io.proofs.out_sink.write_all.Given as goal

-- what was taken so far, and what is left
abbrev pub invariant-loop : goal.invariant-loop
invariant-loop g l = TakesAllBut (g.W.Write.contents l.fn.to) (g.W.Write.contents l.to) l.bytes l.rest

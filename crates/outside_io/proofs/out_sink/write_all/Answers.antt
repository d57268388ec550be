use Rattle.std.proofs.Common.{ℕ, List, subst, sym}
use Rattle.std.proofs.lemmas.List.{take_rest}
use Rattle.outside_io.specs.Streams.{TakesAllBut}
use Rattle.outside_io.proofs.StreamLemmas.{TakesAllBut-more}
use Rattle.outside_io.proofs.out_sink.write_all.Goals as goal

pub loop-preserved : goal.loop-preserved
loop-preserved g c =
    let contents = g.W.Write.contents in
    subst (λ (left : List ℕ). TakesAllBut (contents c.args.to.now) (contents c.write.new.self) c.args.bytes.now left) (sym (take_rest c.loop.rest.now c.in-Ok.count))
    (TakesAllBut-more _ _ _ _ _ c.in-Ok.count c.loop.invariant c.in-Ok.ensures.bytes)

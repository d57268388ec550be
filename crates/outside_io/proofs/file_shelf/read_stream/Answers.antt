use Rattle.std.proofs.Common.{◌≡◌, ◌+◌, ◌++◌, ◌≤◌, length, take, drop, ap, arith, length-take, length-append, ◌∙◌}
use Rattle.std.proofs.lemmas.List.{take-append-le}
use Rattle.std.proofs.KnownBytes.{Consumes-trans}
use Rattle.outside_io.proofs.StreamLemmas.{TakesUpTo-twice}
use Rattle.outside_io.proofs.file_shelf.read_stream.Goals as goal

pub returns-in_err-extend_from_slice-in-Ok-clause-no_further : goal.returns-in_err-extend_from_slice-in-Ok-clause-no_further
returns-in_err-extend_from_slice-in-Ok-clause-no_further g c =
    let wanted = length-take c.min-wanted.result c.loop.chunk in
    let few : length c.loop.bytes.items + length (take c.in-Ok.count c.read.new.buf) ≤ c.args.most + 1 = omega (arith, wanted, c.read.auto.buf, c.in-Ok.ensures.bound) in
    TakesUpTo-twice _ _ _ _ _ _ c.loop.invariant.consumes c.in-Ok.ensures.bytes.0 few

pub loop-preserved : goal.loop-preserved
loop-preserved g c =
    let fits : c.in-Ok.count ≤ length c.read.new.buf = omega (arith, c.in-Ok.ensures.bound) in
    let grown : c.extend_from_slice.new.self.items ≡ c.loop.bytes.items ++ take c.in-Ok.count c.read.new.buf =
    c.in_ok-extend_from_slice-in-Ok.ensures.items
    ∙ ap (λ x. c.loop.bytes.items ++ x) (take-append-le c.in-Ok.count c.read.new.buf (drop c.min-wanted.result c.loop.chunk) fits) in
    let wanted = length-take c.min-wanted.result c.loop.chunk in
    let few : length c.loop.bytes.items + length (take c.in-Ok.count c.read.new.buf) ≤ c.args.most + 1 = omega (arith, wanted, c.read.auto.buf, c.in-Ok.ensures.bound) in
    record {
      consumes = rw grown (Consumes-trans _ _ _ _ _ c.loop.invariant.consumes c.in-Ok.ensures.bytes.0);
      few = rw (grown, length-append) few;
    }

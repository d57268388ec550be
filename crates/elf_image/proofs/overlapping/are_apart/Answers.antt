use Rattle.std.proofs.Common.{subst}
use Rattle.std.proofs.lemmas.List.{take_all}
use Rattle.elf_image.specs.Spans.{AreApart}
use Rattle.elf_image.proofs.Apart.{ApartBelow-more}
use Rattle.elf_image.proofs.overlapping.are_apart.Goals as goal

pub loop-span-preserved : goal.loop-span-preserved
loop-span-preserved c =
    rw c.max-end.ensures (ApartBelow-more c.args.spans.now c.loop-span.span-index _ c.loop-span.end c.loop-span-test.true c.if-span-end.false c.loop-span.invariant)

pub returns : goal.returns
returns c _ = subst AreApart (take_all c.loop-span.span-index c.args.spans.now c.loop-span-test.false) c.loop-span.invariant.apart

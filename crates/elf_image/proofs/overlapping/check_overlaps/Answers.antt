use Rattle.std.proofs.Common.{subst}
use Rattle.elf_image.specs.Spans.{AreApart}
use Rattle.elf_image.proofs.Apart.{no_overlap}
use Rattle.elf_image.proofs.overlapping.check_overlaps.Goals as goal

pub returns-in-Ok : goal.returns-in-Ok
returns-in-Ok c =
    no_overlap c.args.headers.now c.in-Ok.spans.items c.in-Ok.ensures (subst AreApart c.as_slice.ensures.value (c.are_apart.ensures c.if-are_apart.true))

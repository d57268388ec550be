use Rattle.std.proofs.Common.{refl}
use Rattle.elf_image.proofs.Copies.{PutsBytes-from_copy}
use Rattle.elf_image.proofs.filling.copy_segment.Goals as goal

pub returns-then-from-to : goal.returns-then-from-to
returns-then-from-to c =
    PutsBytes-from_copy c.args.segment.now c.args.file.now c.args.page.now c.fill_from.new.self c.args.number c.saturating_sub-start.result c.max-from.result c.min-to.result _
    c.saturating_sub-start.ensures c.max-from.ensures c.min-to.ensures c.if-from-to.true refl c.requires.within c.requires.whole c.fill_from.ensures.filled

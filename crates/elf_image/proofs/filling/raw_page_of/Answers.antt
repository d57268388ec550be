use Rattle.std.proofs.Common.{◌∙◌, arith}
use Rattle.std.proofs.lemmas.List.{length-take}
use Rattle.elf_image.proofs.Raw.{IsPageOf-part}
use Rattle.elf_image.proofs.filling.raw_page_of.Goals as goal

pub fill_from-requires : goal.fill_from-requires
fill_from-requires c = rw c.part_of.ensures (simp length-take (omega arith))

pub returns : goal.returns
returns c = IsPageOf-part c.args.file.now c.args.number c.deref_mut.result.now c.fill_from.new.self c.part_of.result.now (c.deref_mut.ensures.value ∙ c.in_ok-page.ensures.zeros) c.part_of.ensures c.fill_from.ensures.filled

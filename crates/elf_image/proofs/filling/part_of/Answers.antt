use Rattle.std.proofs.Common.{◌-◌, take, drop, ap, ◌∙◌}
use Rattle.elf_image.proofs.Raw.{part-is}
use Rattle.elf_image.proofs.filling.part_of.Goals as goal

pub returns : goal.returns
returns c = ap (λ e. take (e - c.min-start.result) (drop c.min-start.result c.args.file.now)) c.min-end.ensures ∙ part-is c.args.file.now _ c.min-start.result c.min-start.ensures

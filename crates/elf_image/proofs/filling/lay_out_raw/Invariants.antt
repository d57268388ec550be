use Rattle.std.proofs.Common.{slice_index}
use Rattle.elf_image.specs.Filling.{ArePagesOf}
use Rattle.elf_image.proofs.filling.lay_out_raw.Given as goal

-- the pages so far
abbrev pub invariant-loop-number : goal.invariant-loop-number
invariant-loop-number l = ArePagesOf (slice_index l.file) l.number l.list

use Rattle.elf_image.specs.Physical.{byte_of}
use Rattle.elf_image.specs.Filling.{ArePagesOf}
use Rattle.elf_image.proofs.filling.lay_out.Given as goal

-- the pages so far
abbrev pub invariant-loop-number : goal.invariant-loop-number
invariant-loop-number l = ArePagesOf (byte_of l.headers l.file) l.number l.list

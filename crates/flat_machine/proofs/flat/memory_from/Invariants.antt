use Rattle.std.proofs.Common.{◌≡◌, ◌*◌, take, length}
use Rattle.elf_image.specs.Physical.{memory_of}
use Rattle.flat_machine.proofs.flat.memory_from.Given as goal

-- the pages so far, each of them whole
abbrev pub invariant-loop-page : goal.invariant-loop-page
invariant-loop-page l = (l.memory.items ≡ memory_of (take l.page-index l.pages)) × (length l.memory.items ≡ 4096 * l.page-index)

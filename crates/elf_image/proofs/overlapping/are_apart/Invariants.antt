use Rattle.std.proofs.Common.{take}
use Rattle.elf_image.proofs.Apart.{ApartBelow}
use Rattle.elf_image.proofs.overlapping.are_apart.Given as goal

-- the places so far are apart, and lie below the end
abbrev pub invariant-loop-span : goal.invariant-loop-span
invariant-loop-span l = ApartBelow l.end (take l.span-index l.spans)

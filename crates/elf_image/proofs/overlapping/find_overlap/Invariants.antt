use Rattle.std.proofs.Common.{◌≡◌, drop}
use Rattle.elf_image.specs.FirstFault.{overlap_from}
use Rattle.elf_image.proofs.overlapping.find_overlap.Given as goal

-- no header so far shares a byte with a later one
abbrev pub invariant-loop-number : goal.invariant-loop-number
invariant-loop-number l = overlap_from l.number (drop l.number l.headers) ≡ overlap_from 0 l.headers

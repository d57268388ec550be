use Rattle.std.proofs.Common.{◌≡◌, ◌+◌, ◌*◌, map}
use Rattle.std.specs.List.{range_with_len}
use Rattle.elf_image.specs.Fields.{program_header_at}
use Rattle.elf_image.proofs.segments.read_headers.Given as goal

-- the headers so far
abbrev pub invariant-loop-number : goal.invariant-loop-number
invariant-loop-number l = l.headers.items ≡ map (λ n. program_header_at l.file (l.header.e_phoff + 32 * n)) (range_with_len 0 l.number)

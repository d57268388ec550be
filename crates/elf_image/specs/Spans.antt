-- Where segments lie in memory, and when no two of them share a byte.
use Rattle.std.specs.Prelude.{ℕ, ◌+◌, ◌≤◌, Bool, nat_lt, nat_le, ◌&&◌, List, Option, Some, None, if◌then◌else◌, count_by}
use Rattle.elf_image.specs.declared.segment.ProgramHeader.{ProgramHeader}
use Rattle.elf_image.specs.declared.segment.ProgramHeader.TheVariants.{Load, Interpreter, Other}
use Rattle.elf_image.specs.declared.segment.Span.{Span}

-- where a segment that has bytes of memory begins, and the address behind its last byte
abbrev pub span_of : ProgramHeader → Option Span
span_of (Load s) = if nat_lt 0 s.p_memsz then Some (record { start = s.p_vaddr; end = s.p_vaddr + s.p_memsz }) else None
span_of Interpreter = None
span_of Other = None

-- the address is one of its own
abbrev pub has_address : ℕ → Span → Bool
has_address address span = nat_le span.start address && nat_lt address span.end

-- no address is one of two of them
abbrev pub AreApart : List Span → Type 0
AreApart spans = (address : ℕ) → count_by (has_address address) spans ≤ 1

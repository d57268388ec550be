-- What is asked of the segments that are to be loaded (ELF specification, "Program Header" and "Program Loading").
-- A guest's memory of some pages is seen from the virtual address C0000000 on, and physical addresses count from there.
use Rattle.std.specs.Prelude.{ℕ, ◌+◌, ◌*◌, Bool, true, false, nat_lt, ◌&&◌, ◌||◌}
use Rattle.elf_image.specs.declared.segment.ProgramHeader.{ProgramHeader}
use Rattle.elf_image.specs.declared.segment.ProgramHeader.TheVariants.{Load, Interpreter, Other}

-- the virtual address of physical address 0, and the one behind the last byte
abbrev pub memory_start : ℕ
memory_start = 0xC000_0000

abbrev pub memory_end : ℕ → ℕ
memory_end pages = memory_start + 4096 * pages

-- the file is to be run by an interpreter
abbrev pub is_interpreter : ProgramHeader → Bool
is_interpreter (Load s) = false
is_interpreter Interpreter = true
is_interpreter Other = false

-- the segment has more bytes in the file than in memory, or passes the end of the file
abbrev pub is_cut : ℕ → ProgramHeader → Bool
is_cut file_length (Load s) = nat_lt s.p_memsz s.p_filesz || nat_lt file_length (s.p_offset + s.p_filesz)
is_cut file_length Interpreter = false
is_cut file_length Other = false

-- the segment has a byte outside the guest's memory
abbrev pub is_outside : ℕ → ProgramHeader → Bool
is_outside pages (Load s) = nat_lt 0 s.p_memsz && (nat_lt s.p_vaddr memory_start || nat_lt (memory_end pages) (s.p_vaddr + s.p_memsz))
is_outside pages Interpreter = false
is_outside pages Other = false

-- a byte of memory belongs to both segments
abbrev pub shares_byte : ProgramHeader → ProgramHeader → Bool
shares_byte (Load s) (Load t) = (nat_lt 0 s.p_memsz && nat_lt 0 t.p_memsz) && (nat_lt s.p_vaddr (t.p_vaddr + t.p_memsz) && nat_lt t.p_vaddr (s.p_vaddr + s.p_memsz))
shares_byte (Load s) Interpreter = false
shares_byte (Load s) Other = false
shares_byte Interpreter t = false
shares_byte Other t = false

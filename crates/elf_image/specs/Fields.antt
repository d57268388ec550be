-- The fields of an ELF file and their places, as 32-bit big-endian objects have them
-- (ELF specification, "ELF Header" and "Program Header").
use Rattle.std.specs.Prelude.{ℕ, ◌+◌, ◌*◌, ◌==◌, List, map, slice_index, slice_index_or, if◌then◌else◌}
use Rattle.std.specs.List.{range_with_len}
use Rattle.byteorder.specs.Endian.{big_from}
use Rattle.base_words.specs.Memory.{word_at}
use Rattle.elf_image.specs.declared.header.ElfHeader.{ElfHeader}
use Rattle.elf_image.specs.declared.segment.LoadSegment.{LoadSegment}
use Rattle.elf_image.specs.declared.segment.ProgramHeader.{ProgramHeader}
use Rattle.elf_image.specs.declared.segment.ProgramHeader.TheVariants.{Load, Interpreter, Other}

-- the byte at an offset, and the half word of two bytes from there; past the end of the file there are zeros
abbrev pub byte_at : List ℕ → ℕ → ℕ
byte_at file offset = slice_index file offset

abbrev pub half_at : List ℕ → ℕ → ℕ
half_at file offset = big_from offset 2 file

-- the file header, from the file's first byte on: e_ident, whose first four bytes are the magic number, and what follows it
unfoldable pub elf_header : List ℕ → ElfHeader
elf_header file = record {
  ei_mag = word_at file 0;
  ei_class = byte_at file 4;
  ei_data = byte_at file 5;
  ei_version = byte_at file 6;
  e_type = half_at file 16;
  e_machine = half_at file 18;
  e_version = word_at file 20;
  e_entry = word_at file 24;
  e_phoff = word_at file 28;
  e_phentsize = half_at file 42;
  e_phnum = half_at file 44;
}

-- what a program header says by its p_type: 1 is PT_LOAD, 3 is PT_INTERP, and the others are passed over
abbrev pub header_of : ℕ → LoadSegment → ProgramHeader
header_of p_type segment = if p_type == 1 then Load segment else (if p_type == 3 then Interpreter else Other)

-- the program header that begins at an offset; its p_paddr, p_flags and p_align are not read
unfoldable pub program_header_at : List ℕ → ℕ → ProgramHeader
program_header_at file offset = header_of (word_at file offset) (record {
  p_offset = word_at file (offset + 4);
  p_vaddr = word_at file (offset + 8);
  p_filesz = word_at file (offset + 16);
  p_memsz = word_at file (offset + 20);
})

-- the program header table: e_phnum headers of 32 bytes, one after the other from e_phoff on
abbrev pub program_headers_of : List ℕ → ElfHeader → List ProgramHeader
program_headers_of file header = map (λ n. program_header_at file (header.e_phoff + 32 * n)) (range_with_len 0 header.e_phnum)

abbrev pub program_headers : List ℕ → List ProgramHeader
program_headers file = program_headers_of file (elf_header file)

-- the program header of a number
abbrev pub header_at : List ProgramHeader → ℕ → ProgramHeader
header_at headers n = slice_index_or headers n Other

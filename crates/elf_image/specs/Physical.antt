-- A guest's physical memory once an image is loaded (ELF specification, "Program Loading").
use Rattle.std.specs.Prelude.{ℕ, ◌+◌, ◌-◌, ◌*◌, Bool, false, nat_lt, nat_le, ◌&&◌, List, [], ◌∷◌, map, slice_index, if◌then◌else◌}
use Rattle.std.specs.Global.{Box}
use Rattle.std.specs.List.{range_with_len, flat_map}
use Rattle.base_words.specs.declared.page.Page.{Page}
use Rattle.elf_image.specs.declared.segment.LoadSegment.{LoadSegment}
use Rattle.elf_image.specs.declared.segment.ProgramHeader.{ProgramHeader}
use Rattle.elf_image.specs.declared.segment.ProgramHeader.TheVariants.{Load, Interpreter, Other}
use Rattle.elf_image.specs.Fields.{program_headers}
use Rattle.elf_image.specs.Segments.{memory_start}

-- the physical address of a segment's first byte
abbrev pub physical_start : LoadSegment → ℕ
physical_start s = s.p_vaddr - memory_start

-- one of the segment's bytes in the file lies at this physical address
abbrev pub lies_at : ProgramHeader → ℕ → Bool
lies_at (Load s) address = nat_le (physical_start s) address && nat_lt address (physical_start s + s.p_filesz)
lies_at Interpreter address = false
lies_at Other address = false

-- that byte
abbrev pub file_byte : List ℕ → ProgramHeader → ℕ → ℕ
file_byte file (Load s) address = slice_index file (s.p_offset + (address - physical_start s))
file_byte file Interpreter address = 0
file_byte file Other address = 0

-- the byte at a physical address: of the segment that has a byte of the file there, and else zero
abbrev pub byte_of : List ProgramHeader → List ℕ → ℕ → ℕ
byte_of [] file address = 0
byte_of (header ∷ headers) file address = if lies_at header address then file_byte file header address else byte_of headers file address

-- the bytes at the addresses of a memory of so many pages, in order
abbrev pub bytes_of : (ℕ → ℕ) → ℕ → List ℕ
bytes_of byte pages = map byte (range_with_len 0 (4096 * pages))

-- the memory of an accepted file
unfoldable pub image_memory : List ℕ → ℕ → List ℕ
image_memory file pages = bytes_of (byte_of (program_headers file) file) pages

-- the bytes of pages, one page after the other
abbrev pub memory_of : List (Box Page) → List ℕ
memory_of pages = flat_map (λ page. page.value) pages

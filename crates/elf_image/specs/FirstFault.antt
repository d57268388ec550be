-- The first fault of an image: one test a row, in the order in which they are made. A test may read fields that lie past the end of
-- the file, where there are zeros: an earlier one has failed then. Names and numbers are those of the ELF specification.
use Rattle.std.specs.Prelude.{ℕ, ◌+◌, ◌*◌, ◌%◌, ◌==◌, Bool, nat_lt, nat_le, not, ◌&&◌, ◌||◌, List, [], ◌∷◌, length, Option, Some, None, if◌then◌else◌, position, option_map}
use Rattle.std.specs.List.{list_any}
use Rattle.elf_image.specs.declared.fault.ImageFault.{ImageFault}
use Rattle.elf_image.specs.declared.fault.ImageFault.TheVariants as fault
use Rattle.elf_image.specs.declared.header.ElfHeader.{ElfHeader}
use Rattle.elf_image.specs.declared.segment.ProgramHeader.{ProgramHeader}
use Rattle.elf_image.specs.Fields.{elf_header, program_headers}
use Rattle.elf_image.specs.Segments.{memory_start, memory_end, is_interpreter, is_cut, is_outside, shares_byte}

-- the first that is there
abbrev pub first_of : List (Option ImageFault) → Option ImageFault
first_of [] = None
first_of (None ∷ rest) = first_of rest
first_of (Some found ∷ rest) = Some found

-- this fault, unless the test passes
abbrev pub needs : Bool → ImageFault → Option ImageFault
needs passes found = if passes then None else Some found

-- the file has a whole header
abbrev pub short : List ℕ → Option ImageFault
short file = needs (nat_le 52 (length file)) fault.Short

-- 7F and the letters ELF; 1 is ELFCLASS32, 2 is ELFDATA2MSB, 1 is EV_CURRENT
abbrev pub magic : ElfHeader → Option ImageFault
magic header = needs (header.ei_mag == 0x7F45_4C46) fault.Magic

abbrev pub class : ElfHeader → Option ImageFault
class header = needs (header.ei_class == 1) fault.Class

abbrev pub order : ElfHeader → Option ImageFault
order header = needs (header.ei_data == 2) fault.Order

abbrev pub version : ElfHeader → Option ImageFault
version header = needs (header.ei_version == 1 && header.e_version == 1) fault.Version

-- 2 is ET_EXEC, 8 is EM_MIPS
abbrev pub kind : ElfHeader → Option ImageFault
kind header = needs (header.e_type == 2) fault.Kind

abbrev pub processor : ElfHeader → Option ImageFault
processor header = needs (header.e_machine == 8) fault.Processor

-- there are no program headers, or their table has entries of 32 bytes and lies within the file
abbrev pub table_fits : ElfHeader → ℕ → Bool
table_fits header file_length = header.e_phnum == 0 || (header.e_phentsize == 32 && nat_le (header.e_phoff + 32 * header.e_phnum) file_length)

abbrev pub table : ElfHeader → ℕ → Option ImageFault
table header file_length = needs (table_fits header file_length) fault.Headers

abbrev pub interp : List ProgramHeader → Option ImageFault
interp headers = needs (not (list_any is_interpreter headers)) fault.Interp

-- the number of the first segment that is cut, or has a byte outside the memory
abbrev pub segment : List ProgramHeader → ℕ → Option ImageFault
segment headers file_length = option_map (λ n. fault.Segment n) (position (is_cut file_length) headers)

abbrev pub place : List ProgramHeader → ℕ → Option ImageFault
place headers pages = option_map (λ n. fault.Place n) (position (is_outside pages) headers)

-- the first segment, from number n on, that shares a byte with a later one, and the first that it shares one with
abbrev pub overlap_from : ℕ → List ProgramHeader → Option ImageFault
overlap_from n [] = None
overlap_from n (header ∷ later) = first_of (option_map (λ k. fault.Overlap n (n + 1 + k)) (position (shares_byte header) later) ∷ overlap_from (n + 1) later ∷ [])

abbrev pub overlap : List ProgramHeader → Option ImageFault
overlap headers = overlap_from 0 headers

-- the entry is the place of an instruction in the guest's memory
abbrev pub entry : ElfHeader → ℕ → Option ImageFault
entry header pages = needs (header.e_entry % 4 == 0 && (nat_le memory_start header.e_entry && nat_lt header.e_entry (memory_end pages))) fault.Entry

-- the first fault of a file that is to be loaded into so many pages
unfoldable pub first_fault : List ℕ → ℕ → Option ImageFault
first_fault file pages = first_of (
    short file
    ∷ magic (elf_header file)
    ∷ class (elf_header file)
    ∷ order (elf_header file)
    ∷ version (elf_header file)
    ∷ kind (elf_header file)
    ∷ processor (elf_header file)
    ∷ table (elf_header file) (length file)
    ∷ interp (program_headers file)
    ∷ segment (program_headers file) (length file)
    ∷ place (program_headers file) pages
    ∷ overlap (program_headers file)
    ∷ entry (elf_header file) pages
    ∷ [])

-- What the steps of a check find: runs of rows of the first fault.
use Rattle.std.specs.Prelude.{◌≡◌, ℕ, List, [], ◌∷◌, Option, Some, None, Result, Ok, Err}
use Rattle.elf_image.specs.declared.fault.ImageFault.{ImageFault}
use Rattle.elf_image.specs.declared.header.ElfHeader.{ElfHeader}
use Rattle.elf_image.specs.declared.segment.ProgramHeader.{ProgramHeader}
use Rattle.elf_image.specs.FirstFault.{first_of, magic, class, order, version, kind, processor, table, interp, segment, place, overlap}

-- a step that takes no memory answers the fault that is to be found, or passes where there is none
abbrev pub Finds : {X : Type 0} → Option ImageFault → Result X ImageFault → Type 0
Finds found (Ok x) = found ≡ None
Finds found (Err refusal) = found ≡ Some refusal

-- the rows on the file header
unfoldable pub header_fault : ElfHeader → ℕ → Option ImageFault
header_fault header file_length = first_of (
    magic header
    ∷ class header
    ∷ order header
    ∷ version header
    ∷ kind header
    ∷ processor header
    ∷ table header file_length
    ∷ [])

-- the rows on the program headers
unfoldable pub segments_fault : List ProgramHeader → ℕ → ℕ → Option ImageFault
segments_fault headers file_length pages = first_of (
    interp headers
    ∷ segment headers file_length
    ∷ place headers pages
    ∷ overlap headers
    ∷ [])

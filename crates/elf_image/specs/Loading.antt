-- What loading an image answers.
use Rattle.std.specs.Prelude.{◌≡◌, ℕ, ◌-◌, ◌*◌, ◌%◌, ◌<◌, ◌==◌, nat_le, true, List, [], ◌∷◌, ◌++◌, length, All, replicate, Option, Some, None, Result, Ok, Err}
use Rattle.elf_image.specs.declared.image.Image.{Image}
use Rattle.elf_image.specs.declared.fault.ImageFault.{ImageFault}
use Rattle.elf_image.specs.declared.fault.ImageFault.TheVariants as fault
use Rattle.elf_image.specs.declared.segment.ProgramHeader.{ProgramHeader}
use Rattle.elf_image.specs.Fields.{elf_header, program_headers, header_at}
use Rattle.elf_image.specs.Segments.{memory_start}
use Rattle.elf_image.specs.FirstFault.{first_of, needs, first_fault}
use Rattle.elf_image.specs.Physical.{lies_at, file_byte, byte_of, image_memory, memory_of}

-- a refusal is the fault that was found; want of memory may come at any time
abbrev pub Refuses : Option ImageFault → ImageFault → Type 0
Refuses found fault.Memory = Unit {0}
Refuses found refusal = found ≡ Some refusal

-- each segment has its bytes of the file in memory, in whatever order the segments stand
abbrev pub IsPlaced : List ℕ → List ProgramHeader → Type 0
IsPlaced file headers = (n address : ℕ) → n < length headers → lies_at (header_at headers n) address ≡ true → byte_of headers file address ≡ file_byte file (header_at headers n) address

-- the image that an accepted ELF file is
pub record IsImageOf (file : List ℕ) (pages : ℕ) (image : Image) : Type 0 where
  pub sound : first_fault file pages ≡ None
  pub entry : image.entry ≡ (elf_header file).e_entry
  pub memory : memory_of image.pages ≡ image_memory file pages
  pub placed : IsPlaced file (program_headers file)
  pub whole : All (λ page. length page.value ≡ 4096) image.pages
  pub count : length image.pages ≡ pages

abbrev pub Loads : List ℕ → ℕ → Result Image ImageFault → Type 0
Loads file pages (Ok image) = IsImageOf file pages image
Loads file pages (Err refusal) = Refuses (first_fault file pages) refusal

-- a raw file is whole words, no more than the memory holds
abbrev pub raw_fault : List ℕ → ℕ → Option ImageFault
raw_fault file pages = first_of (
    needs (length file % 4 == 0) fault.Short
    ∷ needs (nat_le (length file) (4096 * pages)) (fault.Place 0)
    ∷ [])

-- the image that an accepted raw file is: its bytes from physical address 0 on, and zeros behind them
pub record IsRawImageOf (file : List ℕ) (pages : ℕ) (image : Image) : Type 0 where
  pub sound : raw_fault file pages ≡ None
  pub entry : image.entry ≡ memory_start
  pub memory : memory_of image.pages ≡ file ++ replicate (4096 * pages - length file) 0
  pub whole : All (λ page. length page.value ≡ 4096) image.pages
  pub count : length image.pages ≡ pages

abbrev pub LoadsRaw : List ℕ → ℕ → Result Image ImageFault → Type 0
LoadsRaw file pages (Ok image) = IsRawImageOf file pages image
LoadsRaw file pages (Err refusal) = Refuses (raw_fault file pages) refusal

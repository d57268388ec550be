-- What memory holds once `elf_image` has loaded the image of a text: each word at its address, zeros elsewhere, and the run begins at the entry.
use Rattle.std.specs.Prelude.{◌≡◌, ℕ, ◌+◌, ◌-◌, ◌<◌, ◌≤◌, List, take, drop, slice_index, All, None, Result, Ok, Err, ◌⊎◌}
use Rattle.byteorder.specs.Endian.{big_bytes}
use Rattle.elf_image.specs.declared.fault.ImageFault.{ImageFault}
use Rattle.elf_image.specs.declared.fault.ImageFault.TheVariants as fault
use Rattle.elf_image.specs.declared.image.Image.{Image}
use Rattle.elf_image.specs.Fields.{elf_header}
use Rattle.elf_image.specs.FirstFault.{first_fault}
use Rattle.elf_image.specs.Loading.{Loads}
use Rattle.elf_image.specs.Physical.{image_memory, memory_of}
use Rattle.guest_asm.specs.declared.assembled.Placed.{Placed}
use Rattle.guest_asm.specs.Addresses.{start}
use Rattle.guest_asm.specs.Assembly.{Assembly, assembly_of}

-- a word stands in memory, the most significant byte first; physical addresses count from the first address
abbrev pub Stands : List ℕ → Placed → Type 0
Stands memory placed = take 4 (drop (placed.address - start) memory) ≡ big_bytes 4 placed.word

-- an address is none of the word's four
abbrev pub IsBeside : ℕ → Placed → Type 0
IsBeside address placed = (address < placed.address) ⊎ (placed.address + 4 ≤ address)

-- the run begins at the entry; each word stands at its address, and a byte that is none of a word's is 0
pub record HasWords (assembly : Assembly) (entry : ℕ) (memory : List ℕ) : Type 0 where
  pub begins : entry ≡ assembly.entry
  pub words : All (Stands memory) assembly.words
  pub zeros : (address : ℕ) → start ≤ address → All (IsBeside address) assembly.words → slice_index memory (address - start) ≡ 0

-- the image has no fault, and its entry and its memory are such
pub record IsLoaded (assembly : Assembly) (pages : ℕ) : Type 0 where
  pub sound : first_fault assembly.image pages ≡ None
  pub holds : HasWords assembly (elf_header assembly.image).e_entry (image_memory assembly.image pages)

-- so are those that `load` answers; it refuses only where memory is wanting
abbrev pub LoadsWords : Assembly → Result Image ImageFault → Type 0
LoadsWords assembly (Ok image) = HasWords assembly image.entry (memory_of image.pages)
LoadsWords assembly (Err refusal) = refusal ≡ fault.Memory

-- so it is for each text that is assembled, in a memory of 16 pages or more
abbrev pub AllAreLoaded : Type 0
AllAreLoaded = (text : List ℕ) (assembly : Assembly) (pages : ℕ) → assembly_of text ≡ Ok assembly → 16 ≤ pages → IsLoaded assembly pages

-- and for each answer that the contract of `load` allows
abbrev pub AllLoadWords : Type 0
AllLoadWords = (text : List ℕ) (assembly : Assembly) (pages : ℕ) (answer : Result Image ImageFault)
    → assembly_of text ≡ Ok assembly → 16 ≤ pages → Loads assembly.image pages answer → LoadsWords assembly answer

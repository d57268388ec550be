-- What the pages of a memory hold while they are filled one after the other.
use Rattle.std.specs.Prelude.{◌≡◌, ℕ, ◌+◌, ◌*◌, ◌<◌, Bool, true, false, List, length, All, slice_index, if◌then◌else◌}
use Rattle.std.specs.Global.{Box}
use Rattle.base_words.specs.declared.page.Page.{Page}
use Rattle.elf_image.specs.declared.segment.ProgramHeader.{ProgramHeader}
use Rattle.elf_image.specs.Fields.{header_at}
use Rattle.elf_image.specs.Segments.{is_cut}
use Rattle.elf_image.specs.Physical.{lies_at, bytes_of, memory_of}

-- segments that can be copied one after the other: their bytes lie within the file, and no two have a byte at one address
pub record CanBeCopied (headers : List ProgramHeader) (file_length : ℕ) : Type 0 where
  pub whole : (n : ℕ) → n < length headers → is_cut file_length (header_at headers n) ≡ false
  pub apart : (n m address : ℕ) → n < m → m < length headers → lies_at (header_at headers n) address ≡ true → lies_at (header_at headers m) address ≡ false

-- the page of a number, in a memory that has this byte at each address
pub record IsPageOf (byte : ℕ → ℕ) (number : ℕ) (page : List ℕ) : Type 0 where
  pub whole : length page ≡ 4096
  pub bytes : (k : ℕ) → k < 4096 → slice_index page k ≡ byte (4096 * number + k)

-- the page of a number has these bytes at the addresses that are named, and keeps the others
pub record PutsBytes (old new : List ℕ) (number : ℕ) (named : ℕ → Bool) (byte : ℕ → ℕ) : Type 0 where
  pub whole : length new ≡ 4096
  pub bytes : (k : ℕ) → k < 4096 → slice_index new k ≡ (if named (4096 * number + k) then byte (4096 * number + k) else slice_index old k)

-- the first pages of such a memory
pub record ArePagesOf (byte : ℕ → ℕ) (number : ℕ) (pages : List (Box Page)) : Type 0 where
  pub bytes : memory_of pages ≡ bytes_of byte number
  pub whole : All (λ page. length page.value ≡ 4096) pages
  pub count : length pages ≡ number

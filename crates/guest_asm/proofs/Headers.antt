-- The headers of the image, as they are read.
use Rattle.std.proofs.Common.{◌≡◌, ℕ, ◌^◌, ◌<◌, List, ◌++◌, arith}
use Rattle.base_words.specs.Memory.{word_at}
use Rattle.byteorder.specs.Endian.{big_bytes}
use Rattle.elf_image.specs.declared.header.ElfHeader.{ElfHeader}
use Rattle.elf_image.specs.declared.segment.ProgramHeader.{ProgramHeader}
use Rattle.elf_image.specs.declared.segment.ProgramHeader.TheVariants.{Load}
use Rattle.elf_image.specs.Fields.{elf_header, program_header_at}
use Rattle.guest_asm.specs.Addresses.{start}
use Rattle.guest_asm.specs.Image.{file_header, program_header}

-- a word that is written as bytes and read back
word-back : (x : ℕ) → x < 2 ^ 32 → word_at (big_bytes 4 x) 0 ≡ x
word-back x small = omega arith

-- the fields of the file header that are read
abbrev pub header_with : ℕ → ElfHeader
header_with entry = record {
  ei_mag = 0x7F45_4C46;
  ei_class = 1;
  ei_data = 2;
  ei_version = 1;
  e_type = 2;
  e_machine = 8;
  e_version = 1;
  e_entry = entry;
  e_phoff = 52;
  e_phentsize = 32;
  e_phnum = 1;
}

-- the file header is that of an executable with this entry
pub elf_header-is : (entry : ℕ) (behind : List ℕ) → entry < 2 ^ 32 → elf_header (file_header entry ++ behind) ≡ header_with entry
unfolding elf_header
elf_header-is entry behind small = λ i. record {
  ei_mag = 0x7F45_4C46;
  ei_class = 1;
  ei_data = 2;
  ei_version = 1;
  e_type = 2;
  e_machine = 8;
  e_version = 1;
  e_entry = word-back entry small i;
  e_phoff = 52;
  e_phentsize = 32;
  e_phnum = 1;
}

-- the one program header
abbrev pub segment_of : ℕ → ProgramHeader
segment_of count = Load (record { p_offset = 84; p_vaddr = start; p_filesz = count; p_memsz = count })

pub program_header-is : (entry count : ℕ) (bytes : List ℕ) → count < 2 ^ 32 → program_header_at (file_header entry ++ (program_header count ++ bytes)) 52 ≡ segment_of count
unfolding program_header_at
program_header-is entry count bytes small = λ i. Load (record { p_offset = 84; p_vaddr = start; p_filesz = word-back count small i; p_memsz = word-back count small i })

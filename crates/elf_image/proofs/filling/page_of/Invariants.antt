use Rattle.std.proofs.Common.{take}
use Rattle.elf_image.specs.Physical.{byte_of}
use Rattle.elf_image.specs.Filling.{IsPageOf}
use Rattle.elf_image.proofs.filling.page_of.Given as goal

-- the page as the segments so far fill it
abbrev pub invariant-loop-header : goal.invariant-loop-header
invariant-loop-header l = IsPageOf (byte_of (take l.header-index l.headers) l.file) l.number l.page.value

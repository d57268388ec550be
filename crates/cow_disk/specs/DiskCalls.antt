-- What a disk's calls answer and leave.
use Rattle.std.specs.Prelude.{◌≡◌, ℕ, ◌<◌, ◌≤◌, Bool, List, Some, length, is_some, slice_index_or, slice_set}
use Rattle.private_machine.specs.Disk.{Block, no_block}
use Rattle.cow_disk.specs.declared.disk.Wrote.{Wrote}
use Rattle.cow_disk.specs.declared.disk.Wrote.TheVariants as answer

-- whether the guest wrote a block; it wrote none past the last
abbrev pub is_private_at : List Block → ℕ → Bool
is_private_at disk block = is_some (slice_index_or disk block no_block).overlay

-- the disk after the guest wrote a block, which stays as it was given
abbrev pub written : List Block → ℕ → List ℕ → List Block
written disk block bytes = slice_set disk block (record (slice_index_or disk block no_block) { overlay = Some bytes })

-- what a write of these bytes came to: there is such a block and it is written, or there is none and nothing has changed
abbrev pub WrittenBy : List Block → ℕ → List ℕ → Wrote → List Block → Type 0
WrittenBy old block bytes answer.Wrote new = (block < length old) × (new ≡ written old block bytes)
WrittenBy old block bytes answer.NoBlock new = (length old ≤ block) × (new ≡ old)

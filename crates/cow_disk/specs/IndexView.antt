-- What a contract sees of an index of blocks that guests share.
use Rattle.std.specs.Prelude.{ℕ, ◌==◌, ◌&&◌, if◌then◌else◌, List, [], ◌∷◌, Option, Some, None}
use Rattle.std.specs.Arc.{arc_value}
use Rattle.base_words.specs.declared.frame.SharedFrame.{SharedFrame}
use Rattle.private_machine.specs.Backing.{Copy}
use Rattle.cow_disk.specs.declared.index.CacheFrame.{CacheFrame}

-- a block of a disk, and the frame with a copy of it
pub record Cached : Type 0 where
  pub disk : ℕ
  pub block : ℕ
  pub copy : Copy

-- an index: its entries, in the order in which they were kept, and all frames that it was given
pub record Index : Type 0 where
  pub entries : List Cached
  pub frames : List CacheFrame

-- a shared frame, with its bytes
abbrev pub copy_in : SharedFrame → Copy
copy_in f = record { frame = f.number.0; generation = f.generation; bytes = (arc_value f.page).value }

-- the copy of a block
abbrev pub found : List Cached → ℕ → ℕ → Option Copy
found [] disk block = None
found (e ∷ entries) disk block = if (disk == e.disk) && (block == e.block) then Some e.copy else found entries disk block

-- What guests are started from.
use Rattle.std.specs.Prelude.{ℕ, List, [], ◌∷◌, map, Option}
use Rattle.std.specs.Global.{Box, Global}
use Rattle.std.specs.declared.sync.Arc.{Arc}
use Rattle.std.specs.Arc.{arc_value}
use Rattle.base_words.specs.declared.page.Page.{Page}
use Rattle.elf_image.specs.declared.image.Image.{Image}
use Rattle.private_machine.specs.Disk.{as_given}
use Rattle.admission.specs.Views.{disk_numbered, disks_seen}
use Rattle.guest_boot.specs.declared.source.Source.{Source}

-- the blocks of disks that guests share
abbrev pub shared_blocks : List (Arc (List (Box Page)) Global) → List (List (List ℕ))
shared_blocks bases = disks_seen (map arc_value bases)

-- an image, and the disk of a number among these, of which no block is written
abbrev pub source_of : List (List (List ℕ)) → Image → Option ℕ → Source
source_of disks image number = record { image = image; disk = map as_given (disk_numbered disks number); number = number }

-- each image with its disk
abbrev pub sources_of : List (List (List ℕ)) → List Image → List (Option ℕ) → List Source
sources_of disks (image ∷ images) (number ∷ numbers) = source_of disks image number ∷ sources_of disks images numbers
sources_of disks images numbers = []

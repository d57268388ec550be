-- A disk, inside: its base, and the overlay, which has at most a place for each block.
use Rattle.std.specs.Prelude.{◌<◌, ◌≤◌, ◌^◌, List, length}
use Rattle.private_machine.specs.Disk.{Block}
use Rattle.cow_disk.specs.DiskView.{bytes_of, base_pages, owns_of, overlaid}
use Rattle.cow_disk.specs.declared.disk.Disk.TheInside.{Inside}

abbrev pub disk_of : Inside → List Block
disk_of disk = overlaid (bytes_of (base_pages disk.base)) (owns_of disk.overlay.items)

pub record IsOver (disk : Inside) : Type 0 where
  pub few : length (base_pages disk.base) < 2 ^ 32
  pub over : length disk.overlay.items ≤ length (base_pages disk.base)

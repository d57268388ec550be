use Rattle.std.proofs.Common.{◌≡◌, drop}
use Rattle.block_caches.specs.Filling.{disks_seen, disk_at}
use Rattle.block_caches.proofs.filling.disk_of.Given as goal

-- it is among the disks that are left, if it is among them at all
abbrev pub invariant-loop-home : goal.invariant-loop-home
invariant-loop-home l = disk_at l.cell.0 l.number (disks_seen (drop l.home-index l.disks)) ≡ disk_at l.cell.0 l.number (disks_seen l.disks)

use Rattle.std.proofs.Common.{◌≡◌, map, take}
use Rattle.block_caches.specs.Filling.{disks_seen}
use Rattle.guest_boot.specs.Booting.{home_disks}
use Rattle.guest_boot.proofs.booting.disks_of.Given as goal

-- the disks of the first guests are there
abbrev pub invariant-loop-guest : goal.invariant-loop-guest
invariant-loop-guest l = disks_seen l.disks.items ≡ home_disks (map (λ c. c.0) (take l.guest l.homes)) (take l.guest l.sources)

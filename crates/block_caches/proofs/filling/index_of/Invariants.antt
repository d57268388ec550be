use Rattle.std.proofs.Common.{◌≡◌}
use Rattle.block_caches.specs.Filling.{disks_seen, kept_with, wanted}
use Rattle.block_caches.proofs.filling.index_of.Given as goal

-- what the cell wants of the disks so far is kept
abbrev pub invariant-loop-number : goal.invariant-loop-number
invariant-loop-number l = l.index ≡ kept_with (wanted l.cell.0 l.number (disks_seen l.disks)) l.initial.index

use Rattle.std.proofs.Common.{◌≡◌, take}
use Rattle.guest_boot.proofs.booting.copied.Given as goal

abbrev pub invariant-loop-item : goal.invariant-loop-item
invariant-loop-item g l = l.copy ≡ take l.item-index l.item-items

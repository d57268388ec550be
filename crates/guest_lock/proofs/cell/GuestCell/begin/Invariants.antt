use Rattle.std.proofs.Common.{◌≡◌}
use Rattle.guest_lock.proofs.cell.GuestCell.begin.Given as goal

-- who waits was told nothing
abbrev pub invariant-loop : goal.invariant-loop
invariant-loop g l = l.token ≡ l.initial.token

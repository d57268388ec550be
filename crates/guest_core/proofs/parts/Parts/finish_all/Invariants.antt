-- The moves of the pages so far are done for which nobody waited.
use Rattle.std.proofs.Common.{◌≡◌, ◌≤◌}
use Rattle.guest_core.specs.GuestView.{guest_of, IsSameGuest}
use Rattle.guest_core.specs.Kept.{IsKept}
use Rattle.guest_core.proofs.EndLemmas.{AreFinished}
use Rattle.guest_core.proofs.parts.Parts.finish_all.Given as goal

abbrev pub invariant-loop-number : goal.invariant-loop-number
invariant-loop-number l =
    IsKept l.self
    × AreFinished (guest_of l.initial.self) (guest_of l.self) l.number
    × (l.self.seat ≡ l.initial.self.seat)
    × IsSameGuest (guest_of l.initial.self) (guest_of l.self)
    × ((guest_of l.initial.self).room ≤ (guest_of l.self).room)
    × ((guest_of l.self).handed ≡ (guest_of l.initial.self).handed)

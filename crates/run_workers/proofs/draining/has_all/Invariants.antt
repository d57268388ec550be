-- All was taken that the first of the others sent.
use Rattle.std.proofs.Common.{◌≡◌, ◌<◌, ℕ, Some, true}
use Rattle.std.specs.Prelude.{slice_get}
use Rattle.wire_queue.specs.ListSteps.{HasTaken}
use Rattle.guest_core.specs.GuestView.{Monitored}
use Rattle.guest_core.specs.PacketCalls.{KeepsEnds}
use Rattle.run_workers.specs.Draining.{AreKept}
use Rattle.run_workers.proofs.draining.has_all.Given as goal

abbrev pub invariant-loop-place : goal.invariant-loop-place
invariant-loop-place g l =
    KeepsEnds l.initial.guest l.guest
    × AreKept l.initial.others l.others
    × ((i : ℕ) (h : Monitored) → i < l.place → slice_get l.others i ≡ Some h → HasTaken l.guest.passes h.passes true)

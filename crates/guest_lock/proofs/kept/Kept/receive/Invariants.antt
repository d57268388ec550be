-- So many calls were made, each with room.
use Rattle.std.proofs.Common.{◌≡◌, ◌≤◌}
use Rattle.guest_core.specs.MoveCalls.{StillActs}
use Rattle.guest_lock.specs.Receiving.{HasCalledTimes}
use Rattle.guest_lock.proofs.kept.Kept.receive.Given as goal

abbrev pub invariant-loop-call : goal.invariant-loop-call
invariant-loop-call g l =
    HasCalledTimes l._call l.initial.self.guest l.self.guest × (2 ≤ l.self.guest.room) × (l.self.guest.notes ≡ l.initial.self.guest.notes) × StillActs l.initial.self.guest l.self.guest

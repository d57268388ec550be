-- The frames that are left are still to be given back.
use Rattle.std.proofs.Common.{◌≡◌, length}
use Rattle.guest_course.specs.CourseView.{state_of}
use Rattle.guest_core.specs.Frames.{ToGiveBack}
use Rattle.guest_core.proofs.frames.give_back.Given as goal

abbrev pub invariant-loop-frame : goal.invariant-loop-frame
invariant-loop-frame l = ToGiveBack (state_of l.course) l.freed l.holder.view × (l.holder.table ≡ l.initial.holder.table)

abbrev pub decreases-loop-frame : goal.decreases-loop-frame
decreases-loop-frame l = length l.freed

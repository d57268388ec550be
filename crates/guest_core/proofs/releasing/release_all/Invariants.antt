-- The holder holds what is left to the guest, all else of which is as it was.
use Rattle.std.proofs.Common.{◌≡◌, length}
use Rattle.pmap_table.specs.GivingUp.{held}
use Rattle.guest_course.specs.CourseView.{surroundings}
use Rattle.guest_course.specs.declared.course.Course.{Course}
use Rattle.guest_core.specs.Holding.{HoldsCopies}
use Rattle.guest_core.proofs.releasing.release_all.Given as goal

abbrev pub invariant-loop-frame : goal.invariant-loop-frame
invariant-loop-frame l =
    (◌≡◌ {A = Course} l.course (record l.initial.course { pmap = l.course.pmap }))
    × HoldsCopies (surroundings l.course.around) (held l.course.pmap) l.holder.view
    × (l.holder.table ≡ l.initial.holder.table)
    × (l.course.pmap.room ≡ l.initial.course.pmap.room)

abbrev pub decreases-loop-frame : goal.decreases-loop-frame
decreases-loop-frame l = length (held l.course.pmap)

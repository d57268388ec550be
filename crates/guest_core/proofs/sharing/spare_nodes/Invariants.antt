-- The nodes so far whose cells live.
use Rattle.std.proofs.Common.{◌≡◌, take}
use Rattle.std.specs.Prelude.{filter}
use Rattle.guest_course.specs.CourseView.{state_of}
use Rattle.guest_core.specs.Sharing.{lives_on}
use Rattle.guest_core.proofs.sharing.spare_nodes.Given as goal

abbrev pub invariant-loop-node : goal.invariant-loop-node
invariant-loop-node l = l.order ≡ filter (lives_on (state_of l.course)) (take l.node-index l.node-items)

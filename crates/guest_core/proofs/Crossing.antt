-- A guest may go to another thread, and threads may share what guests share.
use denote.Param.Send.{IsSend, IsSync, sendable}
use Rattle.std.proofs.Crossing.{crosses}
use Rattle.frame_words.proofs.holder.Holder.TheSendSync as holder
use Rattle.frame_words.proofs.table.FrameTable.TheSendSync as table
use Rattle.shootdown.proofs.seat.GuestSeat.TheSendSync as seat
use Rattle.cell_depend.proofs.uses.Uses.TheSendSync as uses
use Rattle.guest_course.proofs.course.Course.TheSendSync as course
use Rattle.cow_disk.proofs.index.SharedIndex.TheSendSync as index
use Rattle.event_journal.proofs.journal.Journal.TheSendSync as journal
use Rattle.wire_queue.proofs.lists.PassList.TheSendSync as passes
use Rattle.wire_queue.proofs.wires.Wires.TheSendSync as wires
use Rattle.guest_core.specs.contracts.guest.Guest as guest
use Rattle.guest_core.specs.contracts.resources.Resources as resources

pub guest_send : IsSend guest.the_row
guest_send = search (sendable, crosses, holder.the_send, seat.the_send, uses.the_send, course.the_field_send, journal.the_send, passes.the_field_send, wires.the_send) depth 20

pub resources_sync : (l : _) → IsSync (resources.the_row l)
resources_sync l = search (sendable, crosses, table.the_sync, wires.the_sync, index.the_sync) depth 20

-- The guests under their locks may be shared by threads.
use denote.RattleType.{RattleType}
use denote.Param.Send.{IsSend, IsSync, sendable}
use Rattle.std.proofs.Crossing.{crosses}
use Rattle.guest_core.proofs.Crossing.{guest_send}
use Rattle.guest_lock.specs.declared.starts.Starts.{Ghosts}
use Rattle.guest_lock.specs.contracts.kept.Kept as kept
use Rattle.guest_lock.specs.contracts.cell.GuestCell as cell
use Rattle.guest_lock.specs.contracts.cells.GuestCells as cells

kept_send : (N G : RattleType) (g : Ghosts N.Denot) → IsSend N → IsSend (kept.the_row N G g)
kept_send N G g s = search (sendable, crosses, guest_send) depth 20

cell_sync : (N G : RattleType) (g : Ghosts N.Denot) → IsSend N → IsSync (cell.the_field N G g).row
cell_sync N G g s = search (sendable, crosses, kept_send) depth 20

pub cells_sync : (N : RattleType) (g : Ghosts N.Denot) → IsSend N → IsSync (cells.the_row N g)
cells_sync N g s = search (sendable, cell_sync) depth 20

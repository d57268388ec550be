use mir.Syntax.{named}
use denote.Param.Send.{IsSync}
use Rattle.std.proofs.Crossing as heap
use Rattle.machine_desc.proofs.plan.Plan.TheSendSync as plan
use Rattle.run_workers.specs.contracts.workers.all_work.{N-row}
use Rattle.guest_lock.specs.contracts.cells.GuestCells as cells
use Rattle.guest_core.proofs.Crossing.{resources_sync}
use Rattle.guest_lock.proofs.Crossing.{cells_sync}
use Rattle.run_workers.proofs.workers.all_work.Goals as goal

-- the closure captures the handle, the allocator, the cells, what guests share, the plan and the gate, each by `&`
pub for_each_mut-requires-sync-F : goal.for_each_mut-requires-sync-F
for_each_mut-requires-sync-F g c κs within =
    let handle = c.type_bounds.sync-R in
    let gate = c.type_bounds.sync-T in
    let all : IsSync (cells.the_row (N-row g.row.N g.row.R g.row.T) g.N.Starts) = cells_sync (N-row g.row.N g.row.R g.row.T) g.N.Starts c.type_bounds.send-N in
    record {
      shared = λ x b o κ. (((λ q. tt, handle.shared x.0.now x.0.ref_ptr.0 x.0.ref_ptr.1 _), ((λ q. tt, heap.sync.shared x.1.now x.1.ref_ptr.0 x.1.ref_ptr.1 κ), ((λ q. tt, all.shared x.2.now x.2.ref_ptr.0 x.2.ref_ptr.1 _), ((λ q. tt, (resources_sync (record { mir = named 10; lft = κs.1.1.1.1.1.1.1.1.1.1.0 })).shared x.3.now x.3.ref_ptr.0 x.3.ref_ptr.1 κ), ((λ q. tt, plan.the_sync.shared x.4.now x.4.ref_ptr.0 x.4.ref_ptr.1 _), ((λ q. tt, gate.shared x.5.now x.5.ref_ptr.0 x.5.ref_ptr.1 _), tt)))))), λ q. tt);
    }

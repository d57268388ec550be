use Rattle.std.proofs.Common.{ℕ, Ok, refl, subst, sym}
use Rattle.guest_asm.specs.Assembly.{assembly_seen}
use Rattle.admission.specs.Jobs.{Job, Listing}
use Rattle.monitor_run.specs.Ends.{Ends, nothing}
use Rattle.monitor_run.proofs.EndLemmas.{Runs-written}
use Rattle.monitor_run.proofs.top.carry_out_listing.Goals as goal

pub returns : goal.returns
returns g c =
    let old = g.K.Sink.view c.args.sink.now in
    let new = g.K.Sink.view c.render_listing.new.sink in
    let job : Job = Listing (assembly_seen c.args.assembled.now) in
    subst (λ (status : ℕ). Ends (Ok job) old new nothing status) (sym c.status_of_report.ensures)
    (Runs-written job old new nothing c.render_listing.result refl c.render_listing.ensures)

use Rattle.std.proofs.Common.{ℕ, Ok, refl, subst, sym}
use Rattle.admission.specs.Jobs.{Job, Print}
use Rattle.monitor_run.specs.Ends.{Ends, nothing}
use Rattle.monitor_run.proofs.EndLemmas.{Runs-written}
use Rattle.monitor_run.proofs.top.carry_out_print.Goals as goal

pub returns : goal.returns
returns g c =
    let old = g.K.Sink.view c.args.sink.now in
    let new = g.K.Sink.view c.render_made.new.sink in
    let job : Job = Print c.args.made.now in
    subst (λ (status : ℕ). Ends (Ok job) old new nothing status) (sym c.status_of_report.ensures)
    (Runs-written job old new nothing c.render_made.result refl c.render_made.ensures)

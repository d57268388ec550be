use Rattle.std.proofs.Common.{ℕ, Ok, subst, sym}
use Rattle.machine_desc.specs.Described.{described_seen}
use Rattle.admission.specs.Jobs.{Job, Monitored}
use Rattle.admission.specs.Views.{starts_of}
use Rattle.monitor_run.specs.Ends.{Ends}
use Rattle.monitor_run.proofs.EndLemmas.{Runs-written}
use Rattle.monitor_run.proofs.top.carry_out.Goals as goal

pub returns : goal.returns
returns g c =
    let old = g.K.Sink.view c.args.sink.now in
    let new = g.K.Sink.view c.render.new.sink in
    let setup = c.args.setup in
    let job : Job = Monitored (described_seen setup.machine setup.plan) (starts_of setup) c.args.sums in
    subst (λ (status : ℕ). Ends (Ok job) old new c.in-Ok.record status) (sym c.status_of_report.ensures)
    (Runs-written job old new c.in-Ok.record c.render.result c.in-Ok.ensures c.render.ensures)

use Rattle.std.proofs.Common.{◌≡◌, ◌++◌, ◌+◌, List, subst, sym}
use Rattle.machine_desc.specs.Described.{described_seen}
use Rattle.admission.specs.Views.{starts_of}
use Rattle.run_report.specs.declared.alone.Alone.{Alone}
use Rattle.monitor_run.specs.Alone.{alone_of, left_from}
use Rattle.monitor_run.proofs.AloneLemmas.{left-push}
use Rattle.monitor_run.proofs.private_run.run_alone.Goals as goal

pub loop-guest-preserved : goal.loop-guest-preserved
loop-guest-preserved c =
    let setup = c.args.setup.now in
    let d = described_seen setup.machine setup.plan in
    let all = alone_of d (starts_of setup) in
    subst (λ (l : List Alone). l ++ left_from d (starts_of setup) (c.loop-guest.guest + 1) ≡ all) (sym c.in_ok-push.ensures.ok)
    (left-push d (starts_of setup) c.loop-guest.left c.loop-guest.guest c.in_ok-run_one.field-0 all c.loop-guest.invariant c.in_ok-run_one.ensures)

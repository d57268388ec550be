use Rattle.std.proofs.Common.{◌∙◌, ◌≤◌, ℕ, List, Option, length, ap, sym, subst}
use Rattle.std.proofs.lemmas.Result.{IfOk-weaker}
use Rattle.std.specs.Prelude.{All}
use Rattle.machine_desc.specs.Described.{described_seen}
use Rattle.admission.specs.Views.{disk_numbered, disks_seen}
use Rattle.guest_boot.specs.declared.source.Source.{Source}
use Rattle.guest_boot.specs.Starting.{AreSources, AreStarts}
use Rattle.monitor_run.specs.Sources.{sources_of}
use Rattle.monitor_run.proofs.MonitoredLemmas.{IsRun-from}
use Rattle.monitor_run.proofs.SourceLemmas.{AreSources-started, few-started}
use Rattle.monitor_run.proofs.monitored.run_monitored.Goals as goal

pub sources-requires-clause-many : goal.sources-requires-clause-many
sources-requires-clause-many g c = c.requires.setup.images ∙ sym c.requires.setup.numbers ∙ ap (λ (l : List (Option ℕ)). length l) (sym c.as_slice.ensures)

pub sources-requires-clause-few : goal.sources-requires-clause-few
sources-requires-clause-few g c =
    let setup = c.args.setup in
    let ready = c.requires.setup in
    let disk = disk_numbered (disks_seen setup.disks) in
    subst (λ (l : List (Option ℕ)). All (λ (number : Option ℕ). length (disk number) ≤ 1024) l) (sym c.as_slice.ensures)
    (few-started setup.machine.guests setup.images disk setup.numbers (ready.images ∙ sym ready.numbers) ready.started)

pub run-requires-clause-sources : goal.run-requires-clause-sources
run-requires-clause-sources g c κs within =
    let setup = c.args.setup in
    let ready = c.requires.setup in
    let disk = disk_numbered (disks_seen setup.disks) in
    let made = c.in_ok-sources.ensures ∙ ap (λ (l : List (Option ℕ)). sources_of (disks_seen setup.disks) setup.images l) c.as_slice.ensures in
    subst (λ (l : List Source). AreSources setup.machine.guests l) (sym made)
    (AreSources-started (disks_seen setup.disks) setup.machine.guests setup.images setup.numbers (ready.images ∙ sym ready.numbers) ready.started)

pub returns : goal.returns
returns g c =
    let setup = c.args.setup in
    let d = described_seen setup.machine setup.plan in
    let ready = c.requires.setup in
    let disk = disk_numbered (disks_seen setup.disks) in
    let made = c.in_ok-sources.ensures ∙ ap (λ (l : List (Option ℕ)). sources_of (disks_seen setup.disks) setup.images l) c.as_slice.ensures in
    IfOk-weaker c.run.result _ _
    (λ out is. IsRun-from d c.isolation.ensures (disks_seen setup.disks) setup.images setup.numbers is.0 out ready.described (ready.images ∙ sym ready.numbers) ready.started
    (subst (λ (l : List Source). AreStarts d 0 setup.machine.guests l setup.plan.input is.0) made is.1) is.2)
    c.run.ensures

use Rattle.machine_desc.specs.Described.{described_seen}
use Rattle.run_workers.proofs.TopLemmas.{is-whole, starts-told}
use Rattle.run_workers.proofs.running.run.Goals as goal

pub returns : goal.returns
returns g c =
    let d = described_seen c.args.machine.now c.args.plan.now in
    let f = c.in_ok-finished.finished in
    let run = c.in_ok-finished.ensures.run in
    (run.0, run.1, is-whole d run.0 f.wires f.record f.passes run.2 (starts-told d c.args.machine.now.guests c.args.sources c.args.plan.now.input run.0 run.1) c.close-2.ensures)

use Rattle.std.specs.Prelude.{ℕ}
use Rattle.run_report.specs.Report.{failure_text}
use Rattle.run_report.proofs.WrittenSoFar.{WrittenSoFar-next, Puts-within}
use Rattle.run_report.proofs.rendering.put_failures.Goals as goal

pub returns-in-Err : goal.returns-in-Err
returns-in-Err g c =
    let view = g.K.Sink.view in
    Puts-within c.pieces_join.ensures (λ (number : ℕ). failure_text) (view c.args.sink.now) (view c.loop-failure.sink) (view c.put_failure.new.sink) c.loop-failure.failure-index c.args.failures.now c.failure-item.result
    c.loop-failure-test.true c.failure-item.is c.in-Err.fault c.loop-failure.invariant c.in-Err.ensures

pub loop-failure-preserved : goal.loop-failure-preserved
loop-failure-preserved g c =
    let view = g.K.Sink.view in
    WrittenSoFar-next c.pieces_join.ensures (λ (number : ℕ). failure_text) (view c.args.sink.now) (view c.loop-failure.sink) (view c.put_failure.new.sink) c.loop-failure.failure-index c.args.failures.now c.failure-item.result
    c.loop-failure-test.true c.failure-item.is c.loop-failure.invariant c.in-Ok.ensures

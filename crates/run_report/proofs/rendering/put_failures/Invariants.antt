use Rattle.std.specs.Prelude.{ℕ}
use Rattle.run_report.specs.Report.{failure_text}
use Rattle.run_report.proofs.WrittenSoFar.{WrittenSoFar}
use Rattle.run_report.proofs.rendering.put_failures.Given as goal

abbrev pub invariant-loop-failure : goal.invariant-loop-failure
invariant-loop-failure g l = WrittenSoFar (λ (number : ℕ). failure_text) (g.K.Sink.view l.initial.sink) (g.K.Sink.view l.sink) l.failure-index l.failures

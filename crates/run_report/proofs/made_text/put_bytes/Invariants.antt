use Rattle.std.specs.Prelude.{ℕ}
use Rattle.run_report.specs.MadeText.{row_text, rows_of}
use Rattle.run_report.proofs.WrittenSoFar.{WrittenSoFar}
use Rattle.run_report.proofs.made_text.put_bytes.Given as goal

-- the rows so far
abbrev pub invariant-loop-number : goal.invariant-loop-number
invariant-loop-number g l = WrittenSoFar (λ (number : ℕ). row_text) (g.K.Sink.view l.initial.sink) (g.K.Sink.view l.sink) l.number (rows_of l.bytes)

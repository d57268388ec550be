use Rattle.std.specs.Prelude.{ℕ}
use Rattle.run_report.specs.MadeText.{file_text}
use Rattle.run_report.proofs.WrittenSoFar.{WrittenSoFar}
use Rattle.run_report.proofs.made_text.put_files.Given as goal

abbrev pub invariant-loop-file : goal.invariant-loop-file
invariant-loop-file g l = WrittenSoFar (λ (number : ℕ). file_text) (g.K.Sink.view l.initial.sink) (g.K.Sink.view l.sink) l.file-index l.files

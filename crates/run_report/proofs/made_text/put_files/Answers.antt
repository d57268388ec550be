use Rattle.std.specs.Prelude.{ℕ}
use Rattle.run_report.specs.MadeText.{file_text}
use Rattle.run_report.proofs.WrittenSoFar.{WrittenSoFar-next, Puts-within}
use Rattle.run_report.proofs.made_text.put_files.Goals as goal

pub returns-in-Err : goal.returns-in-Err
returns-in-Err g c =
    let view = g.K.Sink.view in
    Puts-within c.pieces_join.ensures (λ (number : ℕ). file_text) (view c.args.sink.now) (view c.loop-file.sink) (view c.put_file.new.sink) c.loop-file.file-index c.args.files.now c.file-item.result
    c.loop-file-test.true c.file-item.is c.in-Err.fault c.loop-file.invariant c.in-Err.ensures

pub loop-file-preserved : goal.loop-file-preserved
loop-file-preserved g c =
    let view = g.K.Sink.view in
    WrittenSoFar-next c.pieces_join.ensures (λ (number : ℕ). file_text) (view c.args.sink.now) (view c.loop-file.sink) (view c.put_file.new.sink) c.loop-file.file-index c.args.files.now c.file-item.result
    c.loop-file-test.true c.file-item.is c.loop-file.invariant c.in-Ok.ensures

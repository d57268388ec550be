use Rattle.std.proofs.Common.{List, ℕ, length, subst}
use Rattle.outside_io.specs.Writing.{Puts}
use Rattle.run_report.specs.MadeText.{file_line, bytes_text}
use Rattle.run_report.proofs.made_text.put_file.Goals as goal

pub returns-in-Ok : goal.returns-in-Ok
returns-in-Ok g c =
    let view = g.K.Sink.view in
    let file = c.args.file.now in
    let middle = view c.put_file_line.new.sink in
    let new = view c.put_bytes.new.sink in
    let put = subst (λ (bytes : List ℕ). Puts middle new (bytes_text bytes) c.put_bytes.result) c.as_slice.ensures c.put_bytes.ensures in
    c.pieces_join.ensures.behind (view c.args.sink.now) middle new (file_line file.name (length file.bytes)) (bytes_text file.bytes) c.put_bytes.result c.in-Ok.ensures put

pub returns-in-Err : goal.returns-in-Err
returns-in-Err g c =
    let view = g.K.Sink.view in
    let file = c.args.file.now in
    c.pieces_join.ensures.stopped (view c.args.sink.now) (view c.put_file_line.new.sink) (file_line file.name (length file.bytes)) (bytes_text file.bytes) c.in-Err.fault c.in-Err.ensures

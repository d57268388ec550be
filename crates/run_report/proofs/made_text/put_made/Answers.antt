use Rattle.std.proofs.Common.{List, ℕ, Err, subst}
use Rattle.outside_io.specs.declared.memory.HeldFile.{HeldFile}
use Rattle.outside_io.specs.Writing.{Took, Puts}
use Rattle.run_report.specs.Report.{in_order}
use Rattle.run_report.specs.MadeText.{file_text}
use Rattle.run_report.proofs.made_text.put_made.Goals as goal

pub returns-in-Ok : goal.returns-in-Ok
returns-in-Ok g c =
    let view = g.K.Sink.view in
    let made = c.args.made.now in
    let old = view c.args.sink.now in
    let middle = view c.put.new.self in
    let new = view c.put_files.new.sink in
    let first = subst (λ (text : List ℕ). Took old middle text) c.as_slice.ensures c.in-Ok.ensures.puts in
    let second = subst (λ (files : List HeldFile). Puts middle new (in_order file_text files) c.put_files.result) c.as_slice-in-Ok.ensures c.put_files.ensures in
    c.pieces_join.ensures.behind old middle new made.description (in_order file_text made.files) c.put_files.result first second

pub returns-in-Err : goal.returns-in-Err
returns-in-Err g c =
    let view = g.K.Sink.view in
    let made = c.args.made.now in
    let old = view c.args.sink.now in
    let middle = view c.put.new.self in
    let first = subst (λ (text : List ℕ). Puts old middle text (Err c.in-Err.fault)) c.as_slice.ensures c.in-Err.ensures.puts in
    c.pieces_join.ensures.stopped old middle made.description (in_order file_text made.files) c.in-Err.fault first

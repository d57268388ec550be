use Rattle.run_report.specs.Report.{guest_text, sums_text}
use Rattle.run_report.proofs.rendering.put_record.Goals as goal

pub returns-in-Ok : goal.returns-in-Ok
returns-in-Ok g c =
    let view = g.K.Sink.view in
    let guest = c.args.guest.now in
    c.pieces_join.ensures.behind (view c.args.sink.now) (view c.put_guest.new.sink) (view c.put_sums.new.sink) (guest_text c.args.number guest.console guest.end) (sums_text c.args.sums guest.journal.entries) c.put_sums.result
    c.in-Ok.ensures c.put_sums.ensures

pub returns-in-Err : goal.returns-in-Err
returns-in-Err g c =
    let view = g.K.Sink.view in
    let guest = c.args.guest.now in
    c.pieces_join.ensures.stopped (view c.args.sink.now) (view c.put_guest.new.sink) (guest_text c.args.number guest.console guest.end) (sums_text c.args.sums guest.journal.entries) c.in-Err.fault c.in-Err.ensures

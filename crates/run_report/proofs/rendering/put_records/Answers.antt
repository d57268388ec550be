use Rattle.run_report.specs.Report.{record_text}
use Rattle.run_report.proofs.WrittenSoFar.{WrittenSoFar-next, Puts-within}
use Rattle.run_report.proofs.rendering.put_records.Goals as goal

pub returns-in-Err : goal.returns-in-Err
returns-in-Err g c =
    let view = g.K.Sink.view in
    Puts-within c.pieces_join.ensures (record_text c.args.sums) (view c.args.sink.now) (view c.loop-number.sink) (view c.put_record.new.sink) c.loop-number.number c.args.guests.now c.index-guests-number.result
    c.loop-number-test.true c.index-guests-number.is c.in-Err.fault c.loop-number.invariant c.in-Err.ensures

pub loop-number-preserved : goal.loop-number-preserved
loop-number-preserved g c =
    let view = g.K.Sink.view in
    WrittenSoFar-next c.pieces_join.ensures (record_text c.args.sums) (view c.args.sink.now) (view c.loop-number.sink) (view c.put_record.new.sink) c.loop-number.number c.args.guests.now c.index-guests-number.result
    c.loop-number-test.true c.index-guests-number.is c.loop-number.invariant c.in-Ok.ensures

use Rattle.std.proofs.Common.{List, Err, subst}
use Rattle.outside_io.specs.Writing.{Took, Puts}
use Rattle.guest_core.specs.declared.records.FailureRecord.{FailureRecord}
use Rattle.guest_core.specs.declared.records.GuestRecord.{GuestRecord}
use Rattle.run_report.specs.Report.{in_order, numbered, record_text, failure_text}
use Rattle.run_report.proofs.rendering.put_kept.Goals as goal

pub returns-in-Ok : goal.returns-in-Ok
returns-in-Ok g c =
    let view = g.K.Sink.view in
    let kept = c.args.kept.now in
    let old = view c.args.sink.now in
    let middle = view c.put_records.new.sink in
    let new = view c.put_failures.new.sink in
    let first = subst (λ (guests : List GuestRecord). Took old middle (numbered (record_text c.args.sums) 0 guests)) c.as_slice.ensures c.in-Ok.ensures in
    let second = subst (λ (failures : List FailureRecord). Puts middle new (in_order failure_text failures) c.put_failures.result) c.as_slice-in-Ok.ensures c.put_failures.ensures in
    c.pieces_join.ensures.behind old middle new (numbered (record_text c.args.sums) 0 kept.guests) (in_order failure_text kept.failures) c.put_failures.result first second

pub returns-in-Err : goal.returns-in-Err
returns-in-Err g c =
    let view = g.K.Sink.view in
    let kept = c.args.kept.now in
    let old = view c.args.sink.now in
    let middle = view c.put_records.new.sink in
    let first = subst (λ (guests : List GuestRecord). Puts old middle (numbered (record_text c.args.sums) 0 guests) (Err c.in-Err.fault)) c.as_slice.ensures c.in-Err.ensures in
    c.pieces_join.ensures.stopped old middle (numbered (record_text c.args.sums) 0 kept.guests) (in_order failure_text kept.failures) c.in-Err.fault first

use Rattle.std.proofs.Common.{◌++◌}
use Rattle.run_report.proofs.rendering.put_three.Goals as goal

pub returns-in-Ok : goal.returns-in-Ok
returns-in-Ok g c =
    let view = g.K.Sink.view in
    c.pieces_join.ensures.behind (view c.args.sink.now) (view c.put.new.self) (view c.put_two.new.sink) c.args.first.now (c.args.second.now ++ c.args.third.now) c.put_two.result c.in-Ok.ensures.puts c.put_two.ensures

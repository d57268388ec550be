use Rattle.run_report.proofs.rendering.put_two.Goals as goal

pub returns-in-Ok : goal.returns-in-Ok
returns-in-Ok g c =
    let view = g.K.Sink.view in
    c.pieces_join.ensures.behind (view c.args.sink.now) (view c.put.new.self) (view c.put-in-Ok.new.self) c.args.first.now c.args.second.now c.put-in-Ok.result c.in-Ok.ensures.puts c.put-in-Ok.ensures.puts

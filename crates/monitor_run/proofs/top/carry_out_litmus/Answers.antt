use Rattle.std.proofs.Common.{List, ℕ, refl, subst}
use Rattle.litmus_file.specs.File.{litmus_of}
use Rattle.litmus_run.specs.Command.{Answers}
use Rattle.monitor_run.proofs.top.carry_out_litmus.Goals as goal

pub returns : goal.returns
returns g c =
    let old = g.K.Sink.view c.args.sink.now in
    let new = g.K.Sink.view c.litmus.new.sink in
    (refl, subst (λ (bytes : List ℕ). Answers (litmus_of bytes) old new c.litmus.result) c.as_slice.ensures c.litmus.ensures)

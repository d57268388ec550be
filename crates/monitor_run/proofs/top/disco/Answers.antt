use Rattle.monitor_run.proofs.EndLemmas.{Answers-starved}
use Rattle.admission.specs.Words.{texts}
use Rattle.monitor_run.proofs.top.disco.Goals as goal

pub returns-in-Err-Memory : goal.returns-in-Err-Memory
returns-in-Err-Memory g c =
    Answers-starved c.nothing_put_is_starved.ensures (texts c.args.words.now) (g.S.Shelf.view c.args.shelf.now) (g.S.Shelf.view c.admit.new.shelf) (g.K.Sink.view c.args.sink.now) c.args.out.now _ c.in-Err-Memory.ensures.reads c.requires

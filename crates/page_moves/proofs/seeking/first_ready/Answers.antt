use Rattle.std.proofs.lemmas.Option.{IfSome_then}
use Rattle.page_moves.proofs.OpenLemmas.{ready-of}
use Rattle.page_moves.proofs.seeking.first_ready.Goals as goal

pub returns-clause-ready : goal.returns-clause-ready
returns-clause-ready c = IfSome_then c.first_ready.result c.first_ready.ensures.some (λ q lowest. ready-of c.args.pmap.now q.0 lowest.holds)

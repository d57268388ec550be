use Rattle.std.proofs.lemmas.Option.{IfSome_then}
use Rattle.page_moves.proofs.OpenLemmas.{awaits-of}
use Rattle.page_moves.proofs.seeking.first_waiting.Goals as goal

pub returns-clause-awaits : goal.returns-clause-awaits
returns-clause-awaits c = IfSome_then c.first_waiting.result c.first_waiting.ensures.some (λ q lowest. awaits-of c.args.pmap.now q.0 c.args.processor.0 lowest.holds)

use Rattle.std.proofs.Common.{◌∙◌, refl}
use Rattle.cow_disk.proofs.IndexLemmas.{known-as}
use Rattle.cow_disk.proofs.index.knows.Goals as goal

pub returns : goal.returns
returns c = c.contains_key.ensures ∙ known-as _ c.args.id.disk c.args.id.block (λ id. refl) c.args.entries.now.entries

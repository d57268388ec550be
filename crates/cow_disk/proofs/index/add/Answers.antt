use Rattle.std.proofs.Common.{◌∙◌, refl}
use Rattle.indexmap.proofs.CallerLemmas.{insert_entry-new}
use Rattle.cow_disk.proofs.IndexLemmas.{absent-as}
use Rattle.cow_disk.proofs.index.add.Goals as goal

pub returns : goal.returns
returns c = record {
  ok = c.in_ok-insert.ensures.entries ∙ insert_entry-new _ c.args.entries.now c.args.id c.args.frame (absent-as _ c.args.id.disk c.args.id.block (λ id. refl) c.args.entries.now.entries c.requires);
  err = tt;
}

use Rattle.std.proofs.Common.{List, ℕ, Some, set, ap, ◌∙◌}
use Rattle.std.proofs.lemmas.List.{map-set, set-set}
use Rattle.cow_disk.specs.DiskView.{own_bytes, owns_of}
use Rattle.cow_disk.proofs.overlay.put.Goals as goal

pub returns-in-Some-clause-ok : goal.returns-in-Some-clause-ok
returns-in-Some-clause-ok c = map-set own_bytes c.args.overlay.now.items c.args.block _ ∙ ap (λ (p : List ℕ). set (owns_of c.args.overlay.now.items) c.args.block (Some p)) c.copy_from.ensures.copied

pub returns-clause-ok : goal.returns-clause-ok
returns-clause-ok c = ap owns_of (set-set c.args.overlay.now.items c.args.block _ _) ∙ map-set own_bytes c.args.overlay.now.items c.args.block _ ∙ ap (λ (p : List ℕ). set (owns_of c.args.overlay.now.items) c.args.block (Some p)) c.copy_from-2.ensures.copied

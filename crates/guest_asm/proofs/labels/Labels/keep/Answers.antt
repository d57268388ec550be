use Rattle.std.proofs.Common.{◌∙◌, sym, ap, List, ℕ, Option, Bor}
use Rattle.std.specs.Option.{option_or, option_map}
use Rattle.std.proofs.lemmas.Map.Text.{btree_map_updates_str}
use Rattle.guest_asm.specs.Sites.{site_in, site_under}
use Rattle.guest_asm.proofs.Kept.{kept_new}
use Rattle.guest_asm.proofs.labels.Labels.keep.Goals as goal

pub returns-in_ok-insert-in-None : goal.returns-in_ok-insert-in-None
returns-in_ok-insert-in-None c = λ other.
    btree_map_updates_str c.in-Some.name.now c.args.self.now.sites c.insert.new.self _ c.in_ok-insert-in-None.ensures.updates other
    ∙ kept_new (site_in c.args.self.now) c.in-Some.name.now other c.args.site (sym c.site.ensures ∙ c.in-None.is)
    ∙ ap (λ (label : Option (Bor (List ℕ))). option_or (site_in c.args.self.now other) (site_under other (option_map (λ name. name.now) label) c.args.site)) (sym c.in-Some.is)

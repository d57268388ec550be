use Rattle.std.proofs.Common.{List, Option, None, get_or, ap, ◌∙◌}
use Rattle.std.specs.Global.{Box}
use Rattle.base_words.specs.declared.page.Page.{Page}
use Rattle.cow_disk.specs.DiskView.{owns_of}
use Rattle.cow_disk.proofs.Parts.{private_seen}
use Rattle.cow_disk.proofs.disk.Disk.is_private.Goals as goal

pub returns : goal.returns
returns c =
    c.is_some.ensures ∙ private_seen c.self.inside c.args.self.now c.args.block c.own_block.result c.self.view_is c.self.invariant
    (c.own_block.ensures ∙ ap (λ (l : List (Option (Box Page))). get_or (owns_of l) c.args.block None) c.as_slice.ensures.value)

use Rattle.std.proofs.Common.{List, Option, Some, None, get_or, ap, ◌∙◌}
use Rattle.std.specs.Global.{Box}
use Rattle.std.specs.Option.{option_copied}
use Rattle.base_words.specs.declared.page.Page.{Page}
use Rattle.cow_disk.specs.DiskView.{owns_of}
use Rattle.cow_disk.proofs.Parts.{read_seen, none_seen}
use Rattle.cow_disk.proofs.disk.Disk.read_block.Goals as goal

pub returns-in_err-given : goal.returns-in_err-given
returns-in_err-given c = ap option_copied c.from_residual.ensures ∙ none_seen c.self.inside c.args.self.now c.args.block c.self.view_is c.in_err-given.ensures

pub returns : goal.returns
returns c =
    ap (λ r. Some r.now) c.unwrap_or.ensures
    ∙ read_seen c.self.inside c.args.self.now c.args.block c.own_block.result c.in_ok-given.given c.self.view_is
    (c.own_block.ensures ∙ ap (λ (l : List (Option (Box Page))). get_or (owns_of l) c.args.block None) c.as_slice.ensures.value) c.in_ok-given.ensures

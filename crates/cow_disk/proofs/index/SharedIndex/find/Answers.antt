use Rattle.std.proofs.Common.{ap, ◌∙◌, refl}
use Rattle.std.specs.Option.{option_map}
use Rattle.cow_disk.specs.IndexView.{Index, copy_in, found}
use Rattle.cow_disk.proofs.IndexLemmas.{looked-up, lent}
use Rattle.cow_disk.proofs.index.SharedIndex.find.Goals as goal

pub returns : goal.returns
returns c =
    lent c.get.result
    ∙ ap (option_map copy_in) c.get.ensures.value
    ∙ looked-up _ c.args.disk c.args.block (λ id. refl) c.self.inside.entries.entries
    ∙ ap (λ (i : Index). found i.entries c.args.disk c.args.block) c.self.view_is

use Rattle.std.proofs.Common.{◌∙◌, ap₂, List}
use Rattle.base_words.specs.declared.input.InputEntry.{InputEntry}
use Rattle.machine_desc.specs.declared.plan.Item.{Item}
use Rattle.machine_desc.specs.Described.{Described}
use Rattle.admission.specs.Jobs.{single_described}
use Rattle.admission.proofs.single.single_parts.Goals as goal

pub returns : goal.returns
returns c =
    let d : List Item → List (List InputEntry) → Described = λ items input. record (single_described c.args.raw 0) { items = items; input = input } in
    c.in_ok-machine.ensures c.in_ok-plan.plan ∙ ap₂ d c.in_ok-plan.ensures.items c.in_ok-plan.ensures.input
